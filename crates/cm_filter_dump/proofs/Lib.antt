pub mod Loads
pub mod Built
pub mod Saved
pub mod Usage
