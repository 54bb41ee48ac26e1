-- What a pass over the keys shows of one of their buckets.
use Rattle.std.specs.Prelude.{◌≡◌, ℕ, ◌≤◌, Bool, true, false, List, [], ◌∷◌, ◌++◌, length}
use Rattle.cm_brz_func.specs.Functions.{bucket_of}
use Rattle.cm_brz_func.specs.Splitting.{keys_of_bucket}
use Rattle.cm_spec.specs.declared.limits.TheConstants.{MAX_BUCKET}

-- a key is added to those of a bucket, of k, if it is of this bucket; or there is no room for it, as they are as many as one may have
pub record AddsHere (key : ℕ × List ℕ) (k split bucket : ℕ) (fits : Bool) (taken now : List (ℕ × List ℕ)) : Type 0 where
  pub added : fits ≡ true → now ≡ taken ++ keys_of_bucket (key ∷ []) k split bucket
  pub full : fits ≡ false → (MAX_BUCKET ≤ length taken) × (bucket_of key.1 split k ≡ bucket)

-- so it is with the next of the keys that were left
pub record AddsNext (left rest : List (ℕ × List ℕ)) (k split bucket : ℕ) (fits : Bool) (taken now : List (ℕ × List ℕ)) : Type 0 where
  pub key : ℕ × List ℕ
  pub is : left ≡ key ∷ rest
  pub adds : AddsHere key k split bucket fits taken now
