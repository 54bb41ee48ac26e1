pub mod PlaceLemmas
pub mod StepLemmas
pub mod IndexLemmas
pub mod SpellingLemmas
pub mod ReadBackLemmas
pub mod HeaderFaults
pub mod FaultLemmas
