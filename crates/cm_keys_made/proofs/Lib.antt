pub mod DigitLemmas
pub mod NumberedLemmas
pub mod TextLemmas
