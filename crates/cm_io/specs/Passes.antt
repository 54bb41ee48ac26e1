-- What a pass over keys yields.
use Rattle.std.specs.Prelude.{◌≡◌, ◌≤◌, ◌-◌, ◌+◌, ℕ, List, length, Option, None, Some, Result, Ok, Err, Bool, true, false, [], ◌∷◌, drop, map, take, slice_index_or}
use Rattle.cm_spec.specs.Lookup2.{words}
use Rattle.cm_io.specs.Causes.{Rose}
use Rattle.cm_io.specs.declared.key_pass.KeyFault.{KeyFault}
use Rattle.cm_io.specs.declared.key_pass.KeyFault.TheVariants.{Read, TooLong, TooMany}

-- The keys with their lines, and the fault at their end.
pub record Told : Type 0 where
  pub keys : List (ℕ × List ℕ)
  pub fault : Option KeyFault

-- The count never falls, and a call returns `Read` exactly if it rose.
abbrev pub HasKeyCause : {T : Type 0} → ℕ → ℕ → Result T KeyFault → Type 0
HasKeyCause before now (Ok x) = now ≡ before
HasKeyCause before now (Err Read) = (before ≤ now) × Rose before now
HasKeyCause before now (Err (TooLong line)) = now ≡ before
HasKeyCause before now (Err TooMany) = now ≡ before

-- the fault that a call failed with, if it failed
abbrev pub failure_of : {T : Type 0} → Result T KeyFault → Option KeyFault
failure_of (Ok x) = None
failure_of (Err fault) = Some fault

-- The keys from the place on have come to their end, which is this fault or none.
pub record Ends (told : Told) (place : ℕ) (fault : Option KeyFault) : Type 0 where
  pub none_left : drop place told.keys ≡ []
  pub all : place ≡ length told.keys
  pub fault_is : told.fault ≡ fault

-- The next of the known keys, or what comes after the last.
abbrev pub GivesKey : Told → ℕ → ℕ → ℕ → List ℕ → Result Bool KeyFault → Type 0
GivesKey told before now line key (Ok true) = drop before told.keys ≡ (line, key) ∷ drop now told.keys
GivesKey told before now line key (Ok false) = Ends told before None
GivesKey told before now line key (Err Read) = Unit {0}
GivesKey told before now line key (Err (TooLong at)) = Ends told before (Some (TooLong at))
GivesKey told before now line key (Err TooMany) = Ends told before (Some TooMany)

-- Four of the known keys, from the place on, have these hash values under the seed, in order.
pub record GivesFour (told : Told) (place seed : ℕ) (four : List (List ℕ)) : Type 0 where
  pub enough : place + 4 ≤ length told.keys
  pub words_are : four ≡ map (λ k. words k.1 seed) (take 4 (drop place told.keys))

-- This many of the known keys have passed, the last of them of this line.
abbrev pub PassesKeys : Told → ℕ → ℕ → Type 0
PassesKeys told now line = (now ≤ length told.keys) × ((d : ℕ × List ℕ) → (slice_index_or told.keys (now - 1) d).0 ≡ line)

-- a fault of a pass over known keys: the one at their end, unless the source has failed
abbrev pub IsToldFault : Told → KeyFault → Type 0
IsToldFault told Read = Unit {0}
IsToldFault told (TooLong line) = told.fault ≡ Some (TooLong line)
IsToldFault told TooMany = told.fault ≡ Some TooMany
