pub mod Numbered
pub mod Sources
pub mod Texts
