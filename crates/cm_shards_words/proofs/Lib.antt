pub mod ManyLemmas
