pub mod Merging
pub mod Counting
pub mod Passing
pub mod Own
pub mod Graphs
