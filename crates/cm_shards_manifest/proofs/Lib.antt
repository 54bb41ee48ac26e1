pub mod NameLemmas
pub mod ShardLemmas
pub mod PieceLemmas
pub mod FolderLemmas
pub mod FromLemmas
pub mod SpellingLemmas
pub mod ReadBackLemmas
pub mod NearLemmas
