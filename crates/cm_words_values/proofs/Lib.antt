mod DigitLemmas
mod NameLemmas
