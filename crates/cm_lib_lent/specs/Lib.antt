pub mod Builds
pub mod Numbers
pub mod Rooms
pub mod Spills
