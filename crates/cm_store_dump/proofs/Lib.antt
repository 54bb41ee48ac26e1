pub mod Loads
pub mod Made
pub mod Saved
pub mod Usage
