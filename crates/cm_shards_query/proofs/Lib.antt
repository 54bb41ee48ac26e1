mod TakingLemmas
mod MarkLemmas
mod Progress
mod TestLemmas
mod Steps
mod Ends
mod Truth
