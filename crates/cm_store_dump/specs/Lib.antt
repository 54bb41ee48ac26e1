pub mod Program
pub mod Asked
pub mod Building
pub mod Making
pub mod Running
pub mod Runs
