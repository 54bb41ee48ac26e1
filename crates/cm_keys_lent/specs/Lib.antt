pub mod Ends
pub mod Pass
