pub mod Asked
pub mod Upgrades
pub mod AskedLaws
