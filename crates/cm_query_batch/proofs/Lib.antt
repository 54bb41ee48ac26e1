mod BatchLemmas
pub mod AnswerLemmas
