pub mod ChmLaws
pub mod Functions
pub mod Numbering
pub mod Parts
pub mod Places
