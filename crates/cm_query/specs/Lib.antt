pub mod Examples
pub mod Marks
pub mod Repeats
pub mod Sums
pub mod Tallies
pub mod Texts
