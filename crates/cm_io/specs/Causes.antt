-- How a call changes the count of faults of its object.
use Rattle.std.specs.Prelude.{◌≡◌, ◌<◌, ◌≤◌, ◌^◌, ℕ, Result, Ok, Err, OnOk, OnErr}
use Rattle.cm_io.specs.declared.fault.Failed.{Failed}
use Rattle.cm_io.specs.declared.fault.DiskFault.{DiskFault}
use Rattle.cm_io.specs.declared.fault.DiskFault.TheVariants as disk_fault

-- The count rose. A count is a `u64` that stays at its last value, so this is said of one below 2^63.
abbrev pub Rose : ℕ → ℕ → Type 0
Rose before now = before < 2 ^ 63 → before < now

-- The count never falls, and a call returns `Failed` exactly if it rose.
pub record HasCause {T : Type 0} (before now : ℕ) (result : Result T Failed) : Type 0 where
  pub later : before ≤ now
  pub fine : OnOk result (now ≡ before)
  pub failed : OnErr result (Rose before now)

-- The same of a call that may also run out of memory.
abbrev pub HasDiskCause : {T : Type 0} → ℕ → ℕ → Result T DiskFault → Type 0
HasDiskCause before now (Ok x) = now ≡ before
HasDiskCause before now (Err disk_fault.Memory) = now ≡ before
HasDiskCause before now (Err disk_fault.Failed) = (before ≤ now) × Rose before now

-- A disk took back an object with this count: its own count rose exactly if that one is above 0.
pub record Collects (count before now : ℕ) : Type 0 where
  pub later : before ≤ now
  pub none : count ≡ 0 → now ≡ before
  pub some : 0 < count → Rose before now

-- The same of a call that may fail by itself.
pub record HasCloseCause (count before now : ℕ) (result : Result (Unit {0}) Failed) : Type 0 where
  pub later : before ≤ now
  pub fine : OnOk result (count ≡ 0 → now ≡ before)
  pub counted : 0 < count → Rose before now
  pub failed : OnErr result (Rose before now)
