pub mod Runs
pub mod Joined
pub mod Numbered
