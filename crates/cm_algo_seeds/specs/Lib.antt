pub mod Builds
pub mod CoredLaws
pub mod EqualKeysLaws
pub mod Fails
pub mod Hashed
pub mod OneSeedLaws
pub mod TagLaws
