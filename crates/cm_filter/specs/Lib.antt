pub mod Filters
pub mod Members
pub mod Places
pub mod FilterLaws
