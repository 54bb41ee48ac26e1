-- Answers that an earlier key has, under a function from the bytes of a key to its answer.
use Rattle.std.specs.Prelude.{ℕ, ◌==◌, List, [], Option, None, Some, Bool, false}
use Rattle.std.specs.List.{list_any}
use Rattle.cm_query_batch.specs.Earlier.{with_earlier}

-- the answer is there and is this number
abbrev pub is_number : ℕ → Option ℕ → Bool
is_number v None = false
is_number v (Some w) = w == v

-- the answer is there and is that of one of these keys
abbrev pub is_repeated : (List ℕ → Option ℕ) → List (ℕ × List ℕ) → Option ℕ → Bool
is_repeated f earlier None = false
is_repeated f earlier (Some v) = list_any (λ k. is_number v (f k.1)) earlier

-- whether the answer of each key is that of an earlier one, some of which are given first
abbrev pub repeats_after : (List ℕ → Option ℕ) → List (ℕ × List ℕ) → List (ℕ × List ℕ) → List Bool
repeats_after f before keys = with_earlier (λ earlier k. is_repeated f earlier (f k.1)) before keys

-- the same, with none given first
abbrev pub repeats_of : (List ℕ → Option ℕ) → List (ℕ × List ℕ) → List Bool
repeats_of f keys = repeats_after f [] keys
