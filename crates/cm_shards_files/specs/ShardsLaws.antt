-- What is said of the numbers of keys that are split into shards.
use Rattle.std.specs.Prelude.{◌≡◌, ◌<◌, ◌==◌, ℕ, List, filter, length, Option, Some}
use Rattle.cm_bdz.specs.Numbering.{AnswersApart}
use Rattle.cm_func.specs.Functions.{answer_by, span_by}
use Rattle.cm_route.specs.Routes.{Route, shard_of}
use Rattle.cm_spec.specs.Built.{key_at}
use Rattle.cm_shards_files.specs.Shards.{Sharded, function_at}

-- the keys of shard k, in their order
abbrev pub keys_of_shard : List (ℕ × List ℕ) → Route → ℕ → List (ℕ × List ℕ)
keys_of_shard keys r k = filter (λ key. shard_of r key.1 == k) keys

-- in each shard no two of its keys have the same answer, and each answer is below the span of the shard's function
abbrev pub AreApartByShard : List (ℕ × List ℕ) → Sharded → Type 0
AreApartByShard keys s =
    (k : ℕ) → k < s.route.shards → AnswersApart (keys_of_shard keys s.route k) (answer_by (function_at s.functions k)) (span_by (function_at s.functions k))

-- in each shard the span of the function is the number of the shard's keys, so that no answer is left over
abbrev pub HaveNoGaps : List (ℕ × List ℕ) → Sharded → Type 0
HaveNoGaps keys s = (k : ℕ) → k < s.route.shards → span_by (function_at s.functions k) ≡ length (keys_of_shard keys s.route k)

-- each number below a bound is that of a key
abbrev pub AllAreTaken : List (ℕ × List ℕ) → (List ℕ → Option ℕ) → ℕ → Type 0
AllAreTaken keys f bound = (n : ℕ) → n < bound → (i : ℕ) × (i < length keys) × (f (key_at keys i) ≡ Some n)
