pub mod DiskCalls
pub mod MemDisks
pub mod MemFiles
pub mod TurnSources
pub mod BentSpills
pub mod BentDisks
