pub mod Functions
pub mod Kept
pub mod Places
pub mod Pushing
pub mod Splitting
