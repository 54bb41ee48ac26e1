-- Why keys can't be split or put, and what a fault of a build by BRZ is made of.
use Rattle.std.specs.Prelude.{◌≡◌, ℕ, ◌≤◌, List, Option, Some, Result, Err}
use Rattle.cm_io.specs.Causes.{Rose}
use Rattle.cm_io.specs.Passes.{IsToldFault, Told, HasKeyCause}
use Rattle.cm_io.specs.declared.key_pass.KeyFault.{KeyFault}
use Rattle.cm_brz_split.specs.declared.fault.BrzFault.{BrzFault}
use Rattle.cm_brz_split.specs.declared.fault.BrzFault.TheVariants.{Memory, NoKeys, Overfull, Key, Changed, SpillFailed, SpillDamaged}
use Rattle.cm_brz_split.specs.declared.fault.PutFault.{PutFault}
use Rattle.cm_brz_split.specs.declared.fault.PutFault.TheVariants as put_fault
use Rattle.cm_spill.specs.declared.fault.SpillError.{SpillError}
use Rattle.cm_spill.specs.declared.fault.SpillError.TheVariants as spill_error
use Rattle.cm_witness_gather.specs.declared.certificate.Pair.{Pair}
use Rattle.cm_io.specs.declared.pass_fault.PassFault.{PassFault}
use Rattle.cm_io.specs.declared.pass_fault.PassFault.TheVariants as pass_fault

-- the fault of a build that fails in one of its passes
abbrev pub brz_fault_of : PassFault → BrzFault
brz_fault_of pass_fault.Memory = Memory
brz_fault_of (pass_fault.Key fault) = Key fault
brz_fault_of (pass_fault.Changed first now) = Changed first now

-- the same for a fault of the store
abbrev pub store_fault_of : SpillError → BrzFault
store_fault_of spill_error.Memory = Memory
store_fault_of spill_error.Failed = SpillFailed
store_fault_of (spill_error.Damaged offset expected found) = SpillDamaged offset expected found

-- and for a key that was not put into it
abbrev pub put_fault_of : PutFault → BrzFault
put_fault_of (put_fault.Key fault) = Key fault
put_fault_of (put_fault.Store fault) = store_fault_of fault

-- `Key Read` exactly if the count of the keys' faults rose
abbrev pub HasKeysCause : {T : Type 0} → ℕ → ℕ → Result T BrzFault → Type 0
HasKeysCause before now (Err (Key fault)) = HasKeyCause {T = Unit {0}} before now (Err fault)
HasKeysCause before now result = now ≡ before

-- `SpillFailed` exactly if the count of the spill's faults rose
abbrev pub HasSpillCause : {T : Type 0} → ℕ → ℕ → Result T BrzFault → Type 0
HasSpillCause before now (Err SpillFailed) = (before ≤ now) × Rose before now
HasSpillCause before now result = now ≡ before

-- a pass that puts known keys into a store fails only for these reasons
abbrev pub FailsPassing : Told → BrzFault → Type 0
FailsPassing told Memory = Unit {0}
FailsPassing told (Key fault) = IsToldFault told fault
FailsPassing told SpillFailed = Unit {0}
FailsPassing told fault = ⊥

-- and over any keys for these
abbrev pub IsOfPassing : BrzFault → Type 0
IsOfPassing Memory = Unit {0}
IsOfPassing (Key fault) = Unit {0}
IsOfPassing (Changed first now) = Unit {0}
IsOfPassing SpillFailed = Unit {0}
IsOfPassing fault = ⊥

-- a fact of the two numbers of `Changed`
abbrev pub IfChanged : BrzFault → (ℕ → ℕ → Type 0) → Type 0
IfChanged (Changed first now) P = P first now
IfChanged fault P = Unit {0}

-- a fact of an overfull bucket: the seed of the split, the bucket, its number of keys and its equal keys
abbrev pub IfOverfull : BrzFault → (ℕ → ℕ → ℕ → List Pair → Type 0) → Type 0
IfOverfull (Overfull seed bucket count equal) P = P seed bucket count equal.items
IfOverfull fault P = Unit {0}

-- a fact of a damage
abbrev pub IfDamage : BrzFault → (SpillError → Type 0) → Type 0
IfDamage (SpillDamaged offset expected found) P = P (spill_error.Damaged offset expected found)
IfDamage fault P = Unit {0}

-- a fact that holds if there are no keys
abbrev pub OnNoKeys : BrzFault → Type 0 → Type 0
OnNoKeys NoKeys P = P
OnNoKeys fault P = Unit {0}

-- `Key` has the fault that the pass failed with last
abbrev pub HasFailure : Option KeyFault → BrzFault → Type 0
HasFailure failure (Key fault) = failure ≡ Some fault
HasFailure failure fault = Unit {0}

-- the same for a key that was not put
abbrev pub HasPutFailure : Option KeyFault → PutFault → Type 0
HasPutFailure failure (put_fault.Key fault) = failure ≡ Some fault
HasPutFailure failure (put_fault.Store fault) = Unit {0}
