pub mod Chained
pub mod Choice
pub mod Kept
pub mod Next
pub mod Waiting
