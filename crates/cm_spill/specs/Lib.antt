pub mod Records
pub mod Stores
pub mod StoresLaws
pub mod Laid
pub mod Segments
pub mod Reading
pub mod Reads
pub mod Damage
