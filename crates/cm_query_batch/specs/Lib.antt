pub mod BatchLaws
pub mod Waiting
pub mod Earlier
pub mod Stops
pub mod EarlierLaws
pub mod QueryLaws
