pub mod Indexed
pub mod IndexedLaws
pub mod CountLaws
pub mod Opened
