-- Keys that go into a store.
use Rattle.std.specs.Prelude.{◌≡◌, ◌≢◌, ℕ, ◌+◌, ◌<◌, ◌≤◌, List, [], ◌∷◌, ◌++◌, drop, length, map, slice_index, Option, Result, Ok, Err}
use Rattle.std.specs.Option.{ForSome}
use Rattle.cm_io.specs.Passes.{IsToldFault}
use Rattle.cm_brz_split.specs.Records.{Record, records_of}
use Rattle.cm_spill.specs.Stores.{HasSpillCause as HasStoreCause, IsOfWriting as NotDamaged}
use Rattle.cm_spill.specs.declared.fault.SpillError.{SpillError}
use Rattle.cm_spill.specs.declared.fault.SpillError.TheVariants as spill_error
use Rattle.cm_brz_split.specs.declared.fault.PutFault.{PutFault}
use Rattle.cm_brz_split.specs.declared.fault.PutFault.TheVariants.{Key, Store}
use Rattle.cm_brz_func.specs.Functions.{bucket_of}
use Rattle.cm_io.specs.Passes.{Told, HasKeyCause}

-- a key with its bucket and its line
abbrev pub record_of : ℕ → ℕ → ℕ × List ℕ → Record
record_of k split key = record { bucket = bucket_of key.1 split k; line = key.0; key = key.1 }

-- all keys so
abbrev pub records_under : List (ℕ × List ℕ) → ℕ → ℕ → List Record
records_under keys k split = map (record_of k split) keys

-- these are the numbers of records of the buckets
abbrev pub HaveSizes : List Record → List ℕ → ℕ → Type 0
HaveSizes records sizes k = (j : ℕ) → j < k → length (records_of j records) ≡ slice_index sizes j

-- the count of the keys' faults rose exactly if the pass failed for one, and that of the store's exactly if the store did
abbrev pub HasPutCause : {T : Type 0} → ℕ → ℕ → ℕ → ℕ → Result T PutFault → Type 0
HasPutCause keys keys' store store' (Ok x) = (keys' ≡ keys) × (store' ≡ store)
HasPutCause keys keys' store store' (Err (Key fault)) = HasKeyCause {T = Unit {0}} keys keys' (Err fault) × (store' ≡ store)
HasPutCause keys keys' store store' (Err (Store fault)) = (keys' ≡ keys) × HasStoreCause {T = Unit {0}} store store' (Err fault)

-- a put finds no damage
abbrev pub IsPutFault : PutFault → Type 0
IsPutFault (Key fault) = Unit {0}
IsPutFault (Store fault) = NotDamaged fault

-- a failure of the keys, if they are known
abbrev pub FailsPut : Told → PutFault → Type 0
FailsPut told (Key fault) = IsToldFault told fault
FailsPut told (Store fault) = Unit {0}

-- the next of the keys that were left is one of this bucket, and was put
pub record PutsNext (left rest : List (ℕ × List ℕ)) (k split : ℕ) (put : Record) : Type 0 where
  pub key : ℕ × List ℕ
  pub is : left ≡ key ∷ rest
  pub put_is : put ≡ record_of k split key

-- a key that is put: the store holds one record more, of this bucket
pub record PutsOne (Held : List Record → Type 0) (told : Option Told) (place now k split j : ℕ) (records : List Record) : Type 0 where
  pub put : Record
  pub held : Held (records ++ put ∷ [])
  pub here : put.bucket ≡ j
  pub next : ForSome told (λ t. PutsNext (drop place t.keys) (drop now t.keys) k split put)

-- all keys were put, and no bucket has another number than was counted
pub record AreAllPut (Holds : List Record → Type 0) (told : Option Told) (sizes : List ℕ) (k split : ℕ) : Type 0 where
  pub records : List Record
  pub held : Holds records
  pub sizes_are : HaveSizes records sizes k
  pub all_are : ForSome told (λ t. records ≡ records_under t.keys k split)

-- the records of a bucket are its keys
abbrev pub keys_in_bucket : List Record → ℕ → List (ℕ × List ℕ)
keys_in_bucket records j = map (λ r. (r.line, r.key)) (records_of j records)

-- a damage has two numbers that differ
abbrev pub HasTwoNumbers : SpillError → Type 0
HasTwoNumbers spill_error.Memory = Unit {0}
HasTwoNumbers spill_error.Failed = Unit {0}
HasTwoNumbers (spill_error.Damaged offset expected found) = expected ≢ found

-- a bucket of which this many records were put returned another number of them, fewer or one more; the last one read ends at this offset
abbrev pub IsMiscount : ℕ → ℕ → ℕ → SpillError → Type 0
IsMiscount put given end spill_error.Memory = Unit {0}
IsMiscount put given end spill_error.Failed = ⊥
IsMiscount put given end (spill_error.Damaged offset expected found) = (offset ≡ end) × (expected ≡ put) × (found ≡ given) × (found ≢ put) × (found ≤ put + 1)
