pub mod BuiltLemmas
pub mod ShardLemmas
