-- The answers of keys that are looked up together.
use Rattle.std.specs.Prelude.{◌≡◌, ◌<◌, ℕ, List, [], Option, None, IfSome, length, slice_index_or}

-- each of the places is that of a key
abbrev pub ArePlaces : (List ℕ → List ℕ) → List (List ℕ) → Type 0
ArePlaces place places = (i : ℕ) → i < length places → (key : List ℕ) × (slice_index_or places i [] ≡ place key)

-- Each of the first n places has its answer, which is that of every key of this place, and is below the span if it is a number.
pub record AnswersFirst (place : List ℕ → List ℕ) (answer : List ℕ → Option ℕ) (span : ℕ) (places : List (List ℕ)) (n : ℕ) (answers : List (Option ℕ)) : Type 0 where
  pub many : length answers ≡ length places
  pub are : (i : ℕ) → i < n → (key : List ℕ) → slice_index_or places i [] ≡ place key → slice_index_or answers i None ≡ answer key
  pub inside : (i : ℕ) → i < n → IfSome (slice_index_or answers i None) (λ v. v < span)

-- and so has each of them
abbrev pub AnswersAll : (List ℕ → List ℕ) → (List ℕ → Option ℕ) → ℕ → List (List ℕ) → List (Option ℕ) → Type 0
AnswersAll place answer span places answers = AnswersFirst place answer span places (length places) answers
