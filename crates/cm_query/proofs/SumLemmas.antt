-- The sum of answers, by the keys that are left.
use Rattle.std.proofs.Common.{◌≡◌, ◌∙◌, ℕ, ◌+◌, List, ◌∷◌, drop, Option, ap, arith}
use Rattle.std.specs.Prelude.{unwrap_or}
use Rattle.std.specs.List.{sum_by}
use Rattle.std.proofs.lemmas.List.Sums.{sum_by-cons}
use Rattle.cm_query.specs.Sums.{answer_sum}

-- one answer more
pub sum_next : (f : List ℕ → Option ℕ) (keys : List (ℕ × List ℕ)) (n : ℕ) (k : ℕ × List ℕ) (a : Option ℕ) (all so_far : ℕ) → all ≡ so_far + answer_sum f (drop n keys) → drop n keys ≡ k ∷ drop (n + 1) keys → f k.1 ≡ a
    → all ≡ so_far + unwrap_or a 0 + answer_sum f (drop (n + 1) keys)
sum_next f keys n k a all so_far before next is =
    let value = λ (k : ℕ × List ℕ). unwrap_or (f k.1) 0 in
    let first : answer_sum f (drop n keys) ≡ unwrap_or (f k.1) 0 + answer_sum f (drop (n + 1) keys) = ap (sum_by value) next ∙ sum_by-cons value k (drop (n + 1) keys) in
    let answer : unwrap_or (f k.1) 0 ≡ unwrap_or a 0 = ap (λ (o : Option ℕ). unwrap_or o 0) is in
    omega (arith, before, first, answer)
