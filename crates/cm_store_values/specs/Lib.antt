pub mod Program
pub mod Written
