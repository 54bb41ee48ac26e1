-- Lemmas about the faults of a build by BRZ: what each says of the fault that it was made of.
use Rattle.std.proofs.Common.{◌≡◌, ◌≢◌, ◌⊎◌, ℕ, Option, inl, inr, sym}
use Rattle.cm_brz_split.specs.Faults.{HasFailure, HasPutFailure, IfChanged, IfDamage, brz_fault_of, put_fault_of, store_fault_of}
use Rattle.cm_brz_split.specs.declared.fault.BrzFault.{BrzFault}
use Rattle.cm_brz_split.specs.declared.fault.BrzFault.TheVariants.{Memory, NoKeys, Overfull, Cored, Key, Changed, SpillFailed, SpillDamaged}
use Rattle.cm_brz_split.specs.declared.fault.PutFault.{PutFault}
use Rattle.cm_brz_split.specs.declared.fault.PutFault.TheVariants as put_fault
use Rattle.cm_io.specs.declared.key_pass.KeyFault.{KeyFault}
use Rattle.cm_spill.specs.declared.fault.SpillError.{SpillError}
use Rattle.cm_spill.specs.declared.fault.SpillError.TheVariants as spill_error
use Rattle.cm_io.specs.PassFaults.{HasOtherCount, HasPassFailure, IfChanged as IfPassChanged, IsOtherCount}
use Rattle.cm_io.specs.declared.pass_fault.PassFault.{PassFault}
use Rattle.cm_io.specs.declared.pass_fault.PassFault.TheVariants as pass_fault

-- the fault of the keys
pub pass_failure : (failure : Option KeyFault) (e : PassFault) → HasPassFailure failure e → HasFailure failure (brz_fault_of e)
pass_failure failure pass_fault.Memory h = tt
pass_failure failure (pass_fault.Key fault) h = h
pass_failure failure (pass_fault.Changed first now) h = tt

pub put_failure : (failure : Option KeyFault) (e : PutFault) → HasPutFailure failure e → HasFailure failure (put_fault_of e)
put_failure failure (put_fault.Key fault) h = h
put_failure failure (put_fault.Store spill_error.Memory) h = tt
put_failure failure (put_fault.Store spill_error.Failed) h = tt
put_failure failure (put_fault.Store (spill_error.Damaged offset expected found)) h = tt

-- the numbers of `Changed`
pub pass_changed : (e : PassFault) (P : ℕ → ℕ → Type 0) → IfPassChanged e P → IfChanged (brz_fault_of e) P
pass_changed pass_fault.Memory P h = tt
pass_changed (pass_fault.Key fault) P h = tt
pass_changed (pass_fault.Changed first now) P h = h

pub put_unchanged : (e : PutFault) (P : ℕ → ℕ → Type 0) → IfChanged (put_fault_of e) P
put_unchanged (put_fault.Key fault) P = tt
put_unchanged (put_fault.Store spill_error.Memory) P = tt
put_unchanged (put_fault.Store spill_error.Failed) P = tt
put_unchanged (put_fault.Store (spill_error.Damaged offset expected found)) P = tt

-- another number of keys in all is one of two reasons
pub other_changed : (m place : ℕ) (e : PassFault) (P : ℕ → ℕ → Type 0) → HasOtherCount m place e → IfPassChanged e (λ first now. ((first ≡ m) × IsOtherCount first now place) ⊎ P first now)
other_changed m place pass_fault.Memory P h = tt
other_changed m place (pass_fault.Key fault) P h = tt
other_changed m place (pass_fault.Changed first now) P h = inl h

pub changed_weaker : (e : BrzFault) (P Q : ℕ → ℕ → Type 0) → ((first now : ℕ) → P first now → Q first now) → IfChanged e P → IfChanged e Q
changed_weaker Memory P Q more h = tt
changed_weaker NoKeys P Q more h = tt
changed_weaker (Overfull seed bucket count equal) P Q more h = tt
changed_weaker (Cored made) P Q more h = tt
changed_weaker (Key fault) P Q more h = tt
changed_weaker (Changed first now) P Q more h = more first now h
changed_weaker SpillFailed P Q more h = tt
changed_weaker (SpillDamaged offset expected found) P Q more h = tt

-- either way the numbers differ
pub other_differs : (m place first now : ℕ) (P : Type 0) → (P → first ≢ now) → ((first ≡ m) × IsOtherCount first now place) ⊎ P → first ≢ now
other_differs m place first now P other (inl h) = λ same. h.1.differs (sym same)
other_differs m place first now P other (inr h) = other h

-- a damage
pub store_damage : (e : SpillError) (P : SpillError → Type 0) → P e → IfDamage (store_fault_of e) P
store_damage spill_error.Memory P h = tt
store_damage spill_error.Failed P h = tt
store_damage (spill_error.Damaged offset expected found) P h = h

pub damage_weaker : (e : BrzFault) (P Q : SpillError → Type 0) → ((damage : SpillError) → P damage → Q damage) → IfDamage e P → IfDamage e Q
damage_weaker Memory P Q more h = tt
damage_weaker NoKeys P Q more h = tt
damage_weaker (Overfull seed bucket count equal) P Q more h = tt
damage_weaker (Cored made) P Q more h = tt
damage_weaker (Key fault) P Q more h = tt
damage_weaker (Changed first now) P Q more h = tt
damage_weaker SpillFailed P Q more h = tt
damage_weaker (SpillDamaged offset expected found) P Q more h = more (spill_error.Damaged offset expected found) h
