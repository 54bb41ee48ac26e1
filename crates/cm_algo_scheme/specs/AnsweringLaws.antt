-- One answer more, of keys that are looked up together.
use Rattle.std.proofs.Common.{◌≡◌, ◌<◌, ◌+◌, ◌∙◌, ℕ, List, [], Option, None, arith, inl, inr, get_or, set, length, length-set}
use Rattle.std.proofs.lemmas.Bool.{cases_lt}
use Rattle.std.proofs.lemmas.List.{get_or-set_other}
use Rattle.std.proofs.lemmas.Grind.{get_or-set_at}
use Rattle.std.specs.Prelude.{IfSome}
use Rattle.cm_algo_scheme.specs.Answering.{AnswersFirst}

-- the next place has its answer
pub answers_more : (place : List ℕ → List ℕ) (answer : List ℕ → Option ℕ) (span : ℕ) (places : List (List ℕ)) (n : ℕ) (answers : List (Option ℕ)) (a : Option ℕ) → AnswersFirst place answer span places n answers → n < length places
    → ((key : List ℕ) → get_or places n [] ≡ place key → a ≡ answer key) → IfSome a (λ v. v < span) → AnswersFirst place answer span places (n + 1) (set answers n a)
answers_more place answer span places n answers a before l is inside =
    let there : n < length answers = omega (arith, before.many) in
    record {
      many = length-set answers n a ∙ before.many;
      are = λ i k key at. elim (cases_lt i n) [
        | inl h ↦ get_or-set_other answers n i a None (λ e. omega (arith, e, h)) ∙ before.are i h key at
        | inr h ↦
            let here : i ≡ n = omega arith in
            get_or-set_at answers n i a None here there ∙ is key (rw (← here) at)
      ];
      inside = λ i k. elim (cases_lt i n) [
        | inl h ↦ rw (get_or-set_other answers n i a None (λ e. omega (arith, e, h))) (before.inside i h)
        | inr h ↦
            let here : i ≡ n = omega arith in
            rw (get_or-set_at answers n i a None here there) inside
      ];
    }
