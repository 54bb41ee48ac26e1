mod MemFileLemmas
mod BentLemmas
