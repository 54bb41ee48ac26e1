pub mod Answering
pub mod Building
pub mod Codes
pub mod Functions
pub mod Opening
pub mod Routing
pub mod Spilling
