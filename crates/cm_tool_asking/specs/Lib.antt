pub mod Meanings
pub mod Loads
pub mod Asking
pub mod Leaves
pub mod Asks
pub mod OutcomeLaws
pub mod PassLaws
pub mod MemoryLaws
