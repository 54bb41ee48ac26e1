pub mod TailLemmas
pub mod LaneLemmas
