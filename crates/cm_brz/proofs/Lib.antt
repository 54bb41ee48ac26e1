pub mod Changes
pub mod Found
pub mod Numbers
pub mod Pushes
pub mod Reading
pub mod Whole
