pub mod Builds
pub mod Command
pub mod Examples
pub mod Files
pub mod Options
pub mod Refusals
