pub mod Lines
pub mod Fields
pub mod Parts
pub mod Reports
pub mod Reading
pub mod Windows
