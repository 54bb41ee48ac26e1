pub mod ChoiceLemmas
pub mod HeldLemmas
pub mod NumberingLemmas
