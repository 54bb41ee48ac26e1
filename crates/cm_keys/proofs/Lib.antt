mod PieceLemmas
mod NearLemmas
mod WholeLemmas
mod LeaveLemmas
pub mod NumberingLemmas
mod NextLemmas
mod FourLemmas
mod GivenLemmas
mod MarkLemmas
pub mod SplittingLemmas
mod StreamLemmas
