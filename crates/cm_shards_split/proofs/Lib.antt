pub mod Sharing
pub mod Writing
pub mod Putting
pub mod Streamed
pub mod Created
pub mod Ending
pub mod Finished
pub mod Promises
mod Overwritten
