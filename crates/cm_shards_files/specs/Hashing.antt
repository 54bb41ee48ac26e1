-- A source with the digest of what was read of it.
use Rattle.std.specs.Prelude.{◌≡◌, ◌≤◌, ℕ, List, Option, length, min, take}
use Rattle.std.specs.Option.{ForSome}
use Rattle.sha2.specs.Hashers.{Holds256}
use Rattle.sha2.specs.Sha256.{sha256}
use Rattle.sha2.specs.declared.Sha256.{Sha256}
use Rattle.cm_shards_files.specs.declared.hashed.Sum.{Sum}

-- The source: its bytes, if they are known, how many of them were read, and how often it has failed.
pub record HashedSource : Type 0 where
  pub told : Option (List ℕ)
  pub place : ℕ
  pub faults : ℕ

-- the most that a `u64` counts
abbrev pub most_counted : ℕ
most_counted = 18446744073709551615

-- The bytes before the place are in the hasher, and were counted.
pub record HasHashedAll (bytes : List ℕ) (place : ℕ) (hasher : Sha256) (len : ℕ) : Type 0 where
  pub holds : Holds256 hasher (take place bytes)
  pub inside : place ≤ length bytes
  pub counted : len ≡ min place most_counted

-- the same, if the bytes are known
abbrev pub HasHashed : Option (List ℕ) → ℕ → Sha256 → ℕ → Type 0
HasHashed told place hasher len = ForSome told (λ bytes. HasHashedAll bytes place hasher len)

-- The sum of the bytes before a place.
pub record HasSum (bytes : List ℕ) (place : ℕ) (sum : Sum) : Type 0 where
  pub len : sum.len ≡ min place most_counted
  pub inside : place ≤ length bytes
  pub digest : sum.digest ≡ sha256 (take place bytes)
