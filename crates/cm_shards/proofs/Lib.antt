pub mod JoinedLemmas
pub mod NumberedLemmas
pub mod SharesLemmas
pub mod Undone
pub mod Usage
