pub mod SpanLemmas
pub mod CountLemmas
pub mod TakeLemmas
pub mod Ends
pub mod Promises
mod InputLemmas
mod ExampleLemmas
