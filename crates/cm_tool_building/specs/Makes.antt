-- Why nothing is made of the keys of a pass.
use Rattle.std.specs.Prelude.{◌≡◌, ◌≤◌, ℕ, List, [], Result, Ok, Err}
use Rattle.cm_io.specs.Causes.{Rose}
use Rattle.cm_io.specs.Passes.{HasKeyCause, Told}
use Rattle.cm_io.specs.declared.key_pass.KeyFault.{KeyFault}
use Rattle.cm_io.specs.declared.key_pass.KeyFault.TheVariants as key_fault
use Rattle.cm_tool_building.specs.Meanings.{Meaning}
use Rattle.cm_tool_building.specs.declared.fault.Fault.{Fault}
use Rattle.cm_tool_building.specs.declared.fault.Fault.TheVariants.{Memory, NoKeys, Refused, Key, TooLarge, Changed, Spill, SpillDamaged}
use Rattle.cm_tool_stops.specs.declared.stop.Stop.{Stop}
use Rattle.cm_tool_stops.specs.declared.stop.Stop.TheVariants as stops

-- `Key Read` exactly if the count k of the keys' faults rose, and `Spill` exactly if that of the disk's write faults, w, rose: never do
-- both
abbrev pub IsMakeCause : {R : Type 0} → ℕ → ℕ → ℕ → ℕ → Fault R → Type 0
IsMakeCause k k' w w' (Key fault) = HasKeyCause {T = Unit {0}} k k' (Err fault) × (w' ≡ w)
IsMakeCause k k' w w' Spill = (k' ≡ k) × (w ≤ w') × Rose w w'
IsMakeCause k k' w w' fault = (k' ≡ k) × (w' ≡ w)

abbrev pub HasMakeCause : {T R : Type 0} → ℕ → ℕ → ℕ → ℕ → Result T (Fault R) → Type 0
HasMakeCause k k' w w' (Ok x) = (k' ≡ k) × (w' ≡ w)
HasMakeCause k k' w w' (Err fault) = IsMakeCause k k' w w' fault

-- why a failed pass stops a build
abbrev pub stop_from_key : KeyFault → Stop
stop_from_key key_fault.Read = stops.Read
stop_from_key (key_fault.TooLong line) = stops.TooLong line
stop_from_key key_fault.TooMany = stops.TooMany

-- why a fault stops a build, if out takes the report
abbrev pub stop_for : {R : Type 0} → Fault R → Stop
stop_for Memory = stops.Memory
stop_for NoKeys = stops.NoKeys
stop_for (Refused failure report) = stops.Refused failure
stop_for (Key fault) = stop_from_key fault
stop_for (TooLarge line) = stops.TooLarge line
stop_for (Changed first again) = stops.Changed first again
stop_for Spill = stops.Spill
stop_for (SpillDamaged offset expected found) = stops.SpillDamaged offset expected found

-- over known keys and a known spill these are the refusals: they never change, and what is refused is so by the keys alone, unless
-- memory runs out or the keys or the spill can't be read
abbrev pub RefusesBy : {M R : Type 0} → (R → List ℕ) → Meaning M → Told → Fault R → Type 0
RefusesBy bytes meaning told Memory = Unit {0}
RefusesBy bytes meaning told NoKeys = meaning.verdict told ≡ Err (record { stop = stops.NoKeys; report = [] })
RefusesBy bytes meaning told (Refused failure report) = (meaning.verdict told ≡ Err (record { stop = stops.Refused failure; report = bytes report })) × meaning.reports told
RefusesBy bytes meaning told (Key key_fault.Read) = Unit {0}
RefusesBy bytes meaning told (Key (key_fault.TooLong line)) = meaning.verdict told ≡ Err (record { stop = stops.TooLong line; report = [] })
RefusesBy bytes meaning told (Key key_fault.TooMany) = meaning.verdict told ≡ Err (record { stop = stops.TooMany; report = [] })
RefusesBy bytes meaning told (TooLarge line) = meaning.verdict told ≡ Err (record { stop = stops.TooLarge line; report = [] })
RefusesBy bytes meaning told (Changed first again) = ⊥
RefusesBy bytes meaning told Spill = Unit {0}
RefusesBy bytes meaning told (SpillDamaged offset expected found) = ⊥

-- what a stop has, whatever the keys and the spill are: a report, keys that changed, a spill, and records that are too large are as the
-- builder allows
abbrev pub IsAllowedStop : (Stop → Type 0) → Stop → Type 0
IsAllowedStop may_stop (stops.Refused failure) = may_stop (stops.Refused failure)
IsAllowedStop may_stop (stops.Changed first again) = may_stop (stops.Changed first again)
IsAllowedStop may_stop stops.Spill = may_stop stops.Spill
IsAllowedStop may_stop (stops.SpillDamaged offset expected found) = may_stop (stops.SpillDamaged offset expected found)
IsAllowedStop may_stop (stops.TooLarge line) = may_stop (stops.TooLarge line)
IsAllowedStop may_stop stop = Unit {0}

-- and what a fault has
abbrev pub IsAllowedFault : {R : Type 0} → (Stop → Type 0) → Fault R → Type 0
IsAllowedFault may_stop fault = IsAllowedStop may_stop (stop_for fault)
