pub mod Passes
pub mod Walks
pub mod LeastLaws
