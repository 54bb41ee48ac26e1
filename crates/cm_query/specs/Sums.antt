-- The sum of answers.
use Rattle.std.specs.Prelude.{ℕ, List, Option, unwrap_or}
use Rattle.std.specs.List.{sum_by}

-- the sum of a function's answers to keys, one without an answer counting 0
abbrev pub answer_sum : (List ℕ → Option ℕ) → List (ℕ × List ℕ) → ℕ
answer_sum f keys = sum_by (λ k. unwrap_or (f k.1) 0) keys
