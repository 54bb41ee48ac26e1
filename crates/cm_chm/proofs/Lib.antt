pub mod HeldLemmas
pub mod NumberingLemmas
