pub mod Headers
pub mod Steps
pub mod StoreFiles
pub mod Loads
pub mod Examples
