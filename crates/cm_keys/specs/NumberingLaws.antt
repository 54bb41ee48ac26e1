-- What `numbering` proves of the keys of every text: they are numbered from line 1 and keep within their limits.
use Rattle.std.specs.Prelude.{◌≡◌, ◌<◌, ◌≤◌, ◌+◌, ℕ, List, length, All, Option, None, Some, slice_index_or}
use Rattle.cm_io.specs.Passes.{Told}
use Rattle.cm_io.specs.declared.key_pass.KeyFault.{KeyFault}
use Rattle.cm_io.specs.declared.key_pass.KeyFault.TheVariants.{Read, TooLong, TooMany}

-- The number is within the number of lines to read, if that is given.
abbrev pub IsWithin : Option ℕ → ℕ → Type 0
IsWithin None n = Unit {0}
IsWithin (Some first) n = n ≤ first

-- After n keys: a line that is too long is the next one, and there are too many after the most keys. No line is at fault by a read.
abbrev pub FollowsKeys : ℕ → ℕ → Option KeyFault → Type 0
FollowsKeys max n None = Unit {0}
FollowsKeys max n (Some Read) = ⊥
FollowsKeys max n (Some (TooLong line)) = (line ≡ n + 1) × (n < max)
FollowsKeys max n (Some TooMany) = n ≡ max

-- The keys are numbered from line 1 without a gap, and keep within their limits.
pub record AreNumbered (max longest : ℕ) (first : Option ℕ) (told : Told) : Type 0 where
  pub numbered : (i : ℕ) (d : ℕ × List ℕ) → i < length told.keys → (slice_index_or told.keys i d).0 ≡ i + 1
  pub few : length told.keys ≤ max
  pub within : IsWithin first (length told.keys)
  pub short : All (λ key. length key.1 ≤ longest) told.keys
  pub fault : FollowsKeys max (length told.keys) told.fault
