pub mod Spills
