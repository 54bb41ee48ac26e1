pub mod Pairs
pub mod Cores
pub mod Noted
pub mod Candidates
pub mod Tables
pub mod Gathers
pub mod Reports
pub mod Examples
