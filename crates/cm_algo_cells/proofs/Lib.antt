pub mod Alone
pub mod Completing
pub mod InPlace
pub mod OneRound
pub mod Solving
