mod EarlierLemmas
mod MarkLemmas
mod NotedLemmas
mod ProgressLemmas
mod SumLemmas
mod TextLemmas
