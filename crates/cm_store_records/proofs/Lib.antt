mod TabLemmas
mod PartLemmas
mod PassLemmas
mod PutLemmas
mod ReadLemmas
