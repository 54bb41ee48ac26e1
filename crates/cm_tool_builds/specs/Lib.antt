pub mod Plans
pub mod Results
pub mod Seeds
pub mod FuncOf
pub mod Faults
pub mod Spills
