pub mod BucketLemmas
pub mod AnswerLemmas
pub mod OpenLemmas
pub mod IndexLemmas
pub mod SizeLemmas
