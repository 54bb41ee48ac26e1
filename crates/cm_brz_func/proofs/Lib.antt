pub mod SizeLemmas
pub mod HeldLemmas
pub mod TableLemmas
pub mod KeptLemmas
pub mod Ranking
pub mod ApartLemmas
