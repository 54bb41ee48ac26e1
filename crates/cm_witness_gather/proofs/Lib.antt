mod GatherLemmas
mod NotedLemmas
mod KeptLemmas
mod LineLemmas
mod MarkLemmas
mod TableLemmas
