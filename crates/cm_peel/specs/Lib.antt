pub mod AtRound
pub mod CoreLaws
pub mod Incident
pub mod Marks
pub mod Peeling
pub mod RoundLaws
pub mod SetLaws
pub mod Waiting
