pub mod MemSources
pub mod MemSinks
pub mod MemSpills
