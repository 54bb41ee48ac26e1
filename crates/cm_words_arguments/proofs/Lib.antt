pub mod CommandLemmas
pub mod ReadingLemmas
