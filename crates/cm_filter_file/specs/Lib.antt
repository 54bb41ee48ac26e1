pub mod FilterFiles
pub mod Loads
pub mod Examples
