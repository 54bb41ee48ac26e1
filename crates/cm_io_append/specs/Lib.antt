pub mod Extending
pub mod ExtendingLaws
pub mod Wholes
