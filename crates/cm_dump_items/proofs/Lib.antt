pub mod ItemLemmas
pub mod ChunkLemmas
pub mod PartLemmas
pub mod PieceLemmas
