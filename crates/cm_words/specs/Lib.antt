pub mod Command
pub mod CommandLaws
pub mod Examples
pub mod Limits
pub mod Meaning
pub mod Options
