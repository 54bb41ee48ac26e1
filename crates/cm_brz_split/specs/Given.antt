-- What a pass gave, whether its keys are known or not. `Gave` is what holds of the keys that a pass has yielded, with their lines.
use Rattle.std.specs.Prelude.{◌≡◌, ◌≢◌, ℕ, ◌+◌, ◌<◌, List, [], ◌∷◌, ◌++◌, slice_index}
use Rattle.cm_brz_func.specs.Functions.{bucket_of}
use Rattle.cm_brz_func.specs.Splitting.{IsLowestOver, keys_of_bucket, size_of_bucket}
use Rattle.cm_brz_split.specs.Split.{AreSizes}
use Rattle.cm_witness_gather.specs.Pairs.{pairs}
use Rattle.cm_witness_gather.specs.declared.certificate.Pair.{Pair}

-- after some keys a pass gave one more, which is of this bucket, of k
pub record GaveNext (Gave : List (ℕ × List ℕ) → Type 0) (before : List (ℕ × List ℕ)) (k split bucket : ℕ) : Type 0 where
  pub key : ℕ × List ℕ
  pub given : Gave (before ++ key ∷ [])
  pub bucket_is : bucket ≡ bucket_of key.1 split k

-- after some keys a pass gave more, each of which was counted in its bucket, of k
pub record GaveMore (Gave : List (ℕ × List ℕ) → Type 0) (before : List (ℕ × List ℕ)) (sizes now : List ℕ) (k split : ℕ) : Type 0 where
  pub more : List (ℕ × List ℕ)
  pub given : Gave (before ++ more)
  pub counted : (j : ℕ) → j < k → slice_index now j ≡ slice_index sizes j + size_of_bucket more k split j

-- a pass gave k buckets these numbers of keys
pub record GaveSizes (Gave : List (ℕ × List ℕ) → Type 0) (sizes : List ℕ) (k split : ℕ) : Type 0 where
  pub keys : List (ℕ × List ℕ)
  pub given : Gave keys
  pub sizes_are : AreSizes sizes keys k split

-- a pass gave a bucket, of k, this number of keys
pub record GaveCount (Gave : List (ℕ × List ℕ) → Type 0) (k split bucket count : ℕ) : Type 0 where
  pub keys : List (ℕ × List ℕ)
  pub given : Gave keys
  pub count_is : count ≡ size_of_bucket keys k split bucket

-- a pass gave a bucket, of k, this number of keys, and these are the equal ones among them
pub record GaveEqual (Gave : List (ℕ × List ℕ) → Type 0) (k split bucket count : ℕ) (equal : List Pair) : Type 0 where
  pub keys : List (ℕ × List ℕ)
  pub given : Gave keys
  pub count_is : count ≡ size_of_bucket keys k split bucket
  pub equal_are : equal ≡ pairs (keys_of_bucket keys k split bucket)

-- a pass gave a bucket, of k, this number of keys, and it is the lowest that got more than one may have
pub record GaveOver (Gave : List (ℕ × List ℕ) → Type 0) (k split bucket count : ℕ) : Type 0 where
  pub keys : List (ℕ × List ℕ)
  pub given : Gave keys
  pub lowest : IsLowestOver keys k split bucket count

-- a pass that came to its end, in some state, gave a bucket, of k, this number of keys, and it is the lowest that got more than one may
-- have
pub record CountedOver {P : Type 0} (at_end : P → Type 0) (gave : P → List (ℕ × List ℕ) → Type 0) (k split bucket count : ℕ) : Type 0 where
  pub state : P
  pub ended : at_end state
  pub over : GaveOver (gave state) k split bucket count

-- a pass that came to its end, in some state, gave a bucket, of k, this number of keys
pub record CountedBucket {P : Type 0} (at_end : P → Type 0) (gave : P → List (ℕ × List ℕ) → Type 0) (k split bucket count : ℕ) : Type 0 where
  pub state : P
  pub ended : at_end state
  pub gave_count : GaveCount (gave state) k split bucket count

-- a pass gave a bucket `now` keys after `first` had been counted, and these differ
pub record GaveOther (Gave : List (ℕ × List ℕ) → Type 0) (sizes : List ℕ) (k split first now : ℕ) : Type 0 where
  pub bucket : ℕ
  pub within : bucket < k
  pub first_is : first ≡ slice_index sizes bucket
  pub gave : GaveCount Gave k split bucket now
  pub differs : first ≢ now
