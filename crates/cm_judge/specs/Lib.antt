pub mod Texts
pub mod Outcomes
pub mod Leaves
pub mod Judges
pub mod Runs
pub mod Examples
