pub mod WidthLemmas
pub mod CellLemmas
pub mod SpellingLemmas
pub mod FaultLemmas
pub mod ReadBackLemmas
