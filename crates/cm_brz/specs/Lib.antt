pub mod AnyKeys
pub mod BrzOf
pub mod Fails
pub mod Found
