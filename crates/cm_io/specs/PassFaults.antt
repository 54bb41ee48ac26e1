-- How a pass over keys ends of which the number is known.
use Rattle.std.specs.Prelude.{◌≡◌, ◌≢◌, ◌⊎◌, ℕ, ◌+◌, ◌<◌, ◌≤◌, length, Option, None, Some, Result, Ok, Err, OnOk, IfErr}
use Rattle.std.specs.Option.{ForSome}
use Rattle.cm_io.specs.Passes.{Told, HasKeyCause}
use Rattle.cm_io.specs.declared.key_pass.KeyFault.{KeyFault}
use Rattle.cm_io.specs.declared.key_pass.KeyFault.TheVariants.{Read, TooLong, TooMany}
use Rattle.cm_io.specs.declared.key_pass.KeyPass.{Ghosts}
use Rattle.cm_io.specs.declared.pass_fault.PassFault.{PassFault}
use Rattle.cm_io.specs.declared.pass_fault.PassFault.TheVariants.{Memory, Key, Changed}

-- `Key Read` exactly if the count of the keys' faults rose
abbrev pub HasPassCause : {T : Type 0} → ℕ → ℕ → Result T PassFault → Type 0
HasPassCause before now (Ok x) = now ≡ before
HasPassCause before now (Err Memory) = now ≡ before
HasPassCause before now (Err (Key fault)) = HasKeyCause {T = Unit {0}} before now (Err fault)
HasPassCause before now (Err (Changed first again)) = now ≡ before

-- `Key` has the fault that the pass failed with last
abbrev pub HasPassFailure : Option KeyFault → PassFault → Type 0
HasPassFailure failure Memory = Unit {0}
HasPassFailure failure (Key fault) = failure ≡ Some fault
HasPassFailure failure (Changed first now) = Unit {0}

-- a fact of the two numbers of `Changed`
abbrev pub IfChanged : PassFault → (ℕ → ℕ → Type 0) → Type 0
IfChanged Memory P = Unit {0}
IfChanged (Key fault) P = Unit {0}
IfChanged (Changed first now) P = P first now

-- a pass that expected `first` keys took `now` keys and stopped: it had fewer, or one more
pub record IsOtherCount (first now place : ℕ) : Type 0 where
  pub given : now ≡ place
  pub differs : now ≢ first
  pub stops : now ≤ first + 1

-- the numbers of `Changed`: m were expected, and `place` keys were taken
abbrev pub HasOtherCount : ℕ → ℕ → PassFault → Type 0
HasOtherCount m place Memory = Unit {0}
HasOtherCount m place (Key fault) = Unit {0}
HasOtherCount m place (Changed first now) = (first ≡ m) × IsOtherCount first now place

-- a pass over the keys came to its end after this many
abbrev pub HasPassed : {P : Type 0} → (P → Type 0) → (P → ℕ) → ℕ → Type 0
HasPassed {P} at_end place count = (keys : P) × at_end keys × (place keys ≡ count)

-- known keys, of which m were expected, have come to their end, which is this fault: unless the source has failed, there are no more
-- than m
abbrev pub IsEndFault : Told → ℕ → KeyFault → Type 0
IsEndFault told m Read = Unit {0}
IsEndFault told m (TooLong line) = (length told.keys ≤ m) × (told.fault ≡ Some (TooLong line))
IsEndFault told m TooMany = (length told.keys ≤ m) × (told.fault ≡ Some TooMany)

-- there are more than m known keys, of which the pass took one more than m; or fewer, and no fault at their end
abbrev pub AreOthers : Told → ℕ → ℕ → Type 0
AreOthers told m now = ((m < length told.keys) × (now ≡ m + 1)) ⊎ ((length told.keys < m) × (now ≡ length told.keys) × (told.fault ≡ None))

-- the failures over known keys, of which m were expected
abbrev pub FailsPass : Told → ℕ → PassFault → Type 0
FailsPass told m Memory = Unit {0}
FailsPass told m (Key fault) = IsEndFault told m fault
FailsPass told m (Changed first now) = AreOthers told m now

-- what a call does to a pass that reads the keys to their end, of which there are to be m: it leaves what is known of them, and fails as
-- the pass does, or if there are others
pub record ReadsKeys {P T : Type 0} (K : Ghosts P) (old new : P) (m : ℕ) (result : Result T PassFault) : Type 0 where
  pub told : K.told new ≡ K.told old
  pub cause : HasPassCause (K.faults old) (K.faults new) result
  pub failed : IfErr result (HasPassFailure (K.failure new))
  pub given : OnOk result (K.place new ≡ m)
  pub changed : IfErr result (HasOtherCount m (K.place new))
  pub fault : IfErr result (λ fault. ForSome (K.told old) (λ told. FailsPass told m fault))
