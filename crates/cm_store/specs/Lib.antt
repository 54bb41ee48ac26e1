pub mod Stores
pub mod Numbers
pub mod Faults
pub mod Builds
