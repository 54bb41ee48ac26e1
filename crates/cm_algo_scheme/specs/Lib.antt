pub mod Answering
pub mod AnsweringLaws
pub mod Kinds
pub mod Solvable
