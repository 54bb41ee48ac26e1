pub mod BdzLaws
pub mod Choices
pub mod Functions
pub mod Lent
pub mod LentLaws
pub mod Numbering
pub mod Places
pub mod RankingLaws
