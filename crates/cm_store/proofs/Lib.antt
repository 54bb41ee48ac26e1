mod Standing
mod AllPlaces
mod Looking
mod FillLemmas
mod NumberLemmas
mod Built
mod Lines
mod Comes
