-- How the keys are split into buckets.
use Rattle.std.specs.Prelude.{◌≡◌, ℕ, ◌+◌, ◌<◌, ◌≤◌, ◌==◌, Bool, nat_le, List, [], ◌∷◌, count_by, drop, find, length, slice_index, Option, None, Some, Result, Ok, Err}
use Rattle.std.specs.List.{list_all, range_with_len}
use Rattle.cm_brz_func.specs.Functions.{bucket_by, bucket_of}
use Rattle.cm_brz_func.specs.Splitting.{size_of_bucket}
use Rattle.cm_spec.specs.declared.limits.TheConstants.{MAX_BUCKET}
use Rattle.cm_io.specs.Passes.{Told, Ends, GivesKey}
use Rattle.cm_io.specs.declared.key_pass.KeyFault.{KeyFault}

-- these are the numbers of keys of the buckets
abbrev pub AreSizes : List ℕ → List (ℕ × List ℕ) → ℕ → ℕ → Type 0
AreSizes sizes keys k split = (j : ℕ) → j < k → slice_index sizes j ≡ size_of_bucket keys k split j

-- of the keys that were left before, those that no longer are were counted by bucket
abbrev pub CountsPassed : List ℕ → List ℕ → List (ℕ × List ℕ) → List (ℕ × List ℕ) → ℕ → ℕ → Type 0
CountsPassed sizes now left rest k split = (j : ℕ) → j < k → slice_index now j + size_of_bucket rest k split j ≡ slice_index sizes j + size_of_bucket left k split j

-- how many of some keys, by the hash values of each, bucket j of k has
abbrev pub size_by_words : List (List ℕ) → ℕ → ℕ → ℕ
size_by_words all k j = count_by (λ hashed. bucket_by hashed k == j) all

-- whether no bucket has more keys than one may have
abbrev pub is_split : List (ℕ × List ℕ) → ℕ → ℕ → Bool
is_split keys k split = list_all (λ j. nat_le (size_of_bucket keys k split j) MAX_BUCKET) (range_with_len 0 k)

-- the first seed of a list by which no bucket has more
abbrev pub split_of : List (ℕ × List ℕ) → ℕ → List ℕ → Option ℕ
split_of keys k seeds = find (is_split keys k) seeds

-- of these numbers of keys, this is the first that is more than a bucket may have
pub record IsFirstOver (sizes : List ℕ) (bucket count : ℕ) : Type 0 where
  pub within : bucket < length sizes
  pub is : count ≡ slice_index sizes bucket
  pub over : MAX_BUCKET < count
  pub lowest : (j : ℕ) → j < bucket → slice_index sizes j ≤ MAX_BUCKET

-- the bucket of the next of the keys, or what comes after the last
abbrev pub GivesBucket : Told → ℕ → ℕ → ℕ → ℕ → Result (Option ℕ) KeyFault → Type 0
GivesBucket told before now k split (Ok (Some j)) = (key : ℕ × List ℕ) × (drop before told.keys ≡ key ∷ drop now told.keys) × (j ≡ bucket_of key.1 split k)
GivesBucket told before now k split (Ok None) = Ends told before None
GivesBucket told before now k split (Err fault) = GivesKey told before now 0 [] (Err fault)
