pub mod Buckets
pub mod Faults
