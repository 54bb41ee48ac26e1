-- What each end of a build leaves.
use Rattle.std.specs.Prelude.{◌≡◌, ◌⊎◌, ◌≤◌, ℕ, List, [], take, Option, Some, Result, Ok, Err}
use Rattle.std.specs.Option.{ForSome}
use Rattle.cm_witness_gather.specs.declared.failure.SeedFailure.{SeedFailure}
use Rattle.cm_io.specs.Causes.{Rose}
use Rattle.cm_io.specs.Files.{Files, file_at, with_file}
use Rattle.cm_io.specs.Passes.{Told}
use Rattle.cm_io.specs.Writing.{then_bytes}
use Rattle.cm_tool_building.specs.Building.{Building, keys_of}
use Rattle.cm_tool_building.specs.Makes.{IsAllowedStop, stop_for}
use Rattle.cm_tool_building.specs.Stores.{IsPart}
use Rattle.cm_tool_building.specs.declared.fault.Fault.{Fault}
use Rattle.cm_tool_building.specs.declared.fault.Fault.TheVariants as made_fault
use Rattle.cm_tool_stops.specs.declared.stop.Stop.{Stop}
use Rattle.cm_tool_stops.specs.declared.stop.Stop.TheVariants.{Memory, Read, Write, WriteOut, Refused, Changed, Spill, SpillDamaged}

-- which counts of the disk a build that stopped has raised: that of reading, and that of writing
abbrev pub IsStopCause : ℕ → ℕ → ℕ → ℕ → Stop → Type 0
IsStopCause r r' w w' Read = (r ≤ r') × Rose r r' × (w' ≡ w)
IsStopCause r r' w w' Write = (r' ≡ r) × (w ≤ w') × Rose w w'
IsStopCause r r' w w' Spill = (r' ≡ r) × (w ≤ w') × Rose w w'
IsStopCause r r' w w' stop = (r' ≡ r) × (w' ≡ w)

-- and one that came to its end has raised none
abbrev pub HasStopCause : {T : Type 0} → ℕ → ℕ → ℕ → ℕ → Result T Stop → Type 0
HasStopCause r r' w w' (Ok _) = (r' ≡ r) × (w' ≡ w)
HasStopCause r r' w w' (Err stop) = IsStopCause r r' w w' stop

-- whether a build that stopped has raised that of out
abbrev pub IsOutCause : ℕ → ℕ → Stop → Type 0
IsOutCause o o' WriteOut = (o ≤ o') × Rose o o'
IsOutCause o o' stop = o' ≡ o

-- and one that came to its end has not
abbrev pub HasOutCause : {T : Type 0} → ℕ → ℕ → Result T Stop → Type 0
HasOutCause o o' (Ok _) = o' ≡ o
HasOutCause o o' (Err stop) = IsOutCause o o' stop

-- only a report was written to out
abbrev pub KeepsOut : Option (List ℕ) → Option (List ℕ) → Stop → Type 0
KeepsOut old new (Refused failure) = Unit {0}
KeepsOut old new WriteOut = Unit {0}
KeepsOut old new stop = new ≡ old

abbrev pub HasKeptOut : {T : Type 0} → Option (List ℕ) → Option (List ℕ) → Result T Stop → Type 0
HasKeptOut old new (Ok _) = new ≡ old
HasKeptOut old new (Err stop) = KeepsOut old new stop

-- how a builder may stop
abbrev pub IsAllowedEnd : {T : Type 0} → (Stop → Type 0) → Result T Stop → Type 0
IsAllowedEnd may_stop (Ok _) = Unit {0}
IsAllowedEnd may_stop (Err stop) = IsAllowedStop may_stop stop

-- what out got of a report: all of it, or a prefix if out failed
abbrev pub GotReport : SeedFailure → List ℕ → Option (List ℕ) → Option (List ℕ) → Stop → Type 0
GotReport failure report old new (Refused other) = (other ≡ failure) × (new ≡ then_bytes old report)
GotReport failure report old new WriteOut = (n : ℕ) × (new ≡ then_bytes old (take n report))
GotReport failure report old new stop = ⊥

-- why a fault stops a build, and what out got: the report, if there is one
abbrev pub StopsFor : {R : Type 0} → (R → List ℕ) → Fault R → Option (List ℕ) → Option (List ℕ) → Stop → Type 0
StopsFor bytes (made_fault.Refused failure report) old new stop = GotReport failure (bytes report) old new stop
StopsFor bytes fault old new stop = (stop ≡ stop_for fault) × (new ≡ old)

-- the builder has a report on the keys
pub record IsReported {M : Type 0} (b : Building M) (told : Told) (failure : SeedFailure) (report : List ℕ) : Type 0 where
  pub is : b.meaning.verdict told ≡ Err (record { stop = Refused failure; report = report })
  pub reports : b.meaning.reports told

-- this is why nothing is made of the keys, with what out had before and has now
abbrev pub Refuses : {M : Type 0} → Building M → Told → Option (List ℕ) → Option (List ℕ) → Stop → Type 0
Refuses b told old new (Refused failure) = (report : List ℕ) × IsReported b told failure report × (new ≡ then_bytes old report)
Refuses b told old new WriteOut = (failure : SeedFailure) × (report : List ℕ) × IsReported b told failure report × ((n : ℕ) × (new ≡ then_bytes old (take n report)))
Refuses b told old new Spill = Unit {0}
Refuses b told old new Memory = ⊥
Refuses b told old new Read = ⊥
Refuses b told old new Write = ⊥
Refuses b told old new (Changed first again) = ⊥
Refuses b told old new (SpillDamaged offset expected found) = ⊥
Refuses b told old new stop = b.meaning.verdict told ≡ Err (record { stop = stop; report = [] })

-- a failure over files: one for the keys or the spill shows that the keys file is there
abbrev pub IsRefused : {M : Type 0} → Building M → Files → Option (List ℕ) → Option (List ℕ) → Stop → Type 0
IsRefused b files old new Memory = Unit {0}
IsRefused b files old new Read = Unit {0}
IsRefused b files old new stop = (bytes : List ℕ) × (file_at files b.named.keys ≡ Some bytes) × Refuses b (keys_of b bytes) old new stop

-- this was made of the keys file
pub record MadeOf {M : Type 0} (b : Building M) (files : Files) (made : M) : Type 0 where
  pub bytes : List ℕ
  pub there : file_at files b.named.keys ≡ Some bytes
  pub is : b.meaning.verdict (keys_of b bytes) ≡ Ok made

-- and this is known of it, with the last spill before and after
pub record Known {M : Type 0} (b : Building M) (files : Files) (made : M) (old new : Option (List ℕ)) : Type 0 where
  pub bytes : List ℕ
  pub there : file_at files b.named.keys ≡ Some bytes
  pub makes : b.meaning.makes (keys_of b bytes) made old new

-- these bytes are those of what was made
abbrev pub AreBytesOf : {M : Type 0} → Building M → List ℕ → Files → Type 0
AreBytesOf {M = M} b bytes files = (made : M) × (bytes ≡ b.bytes made) × MadeOf b files made

-- what each end of a build leaves of the files, out having had and having this. Memory may run out once something is made, and then
-- its file may be empty.
abbrev pub Leaves : {M : Type 0} → Building M → Option Files → Option Files → Option (List ℕ) → Option (List ℕ) → Result M Stop → Type 0
Leaves b old new out_old out_new (Ok made) = (new ≡ with_file b.named.function (b.bytes made) old) × ForSome old (λ files. MadeOf b files made)
Leaves {M = M} b old new out_old out_new (Err Memory) = (new ≡ old) ⊎ ((new ≡ with_file b.named.function [] old) × ForSome old (λ files. (made : M) × MadeOf b files made))
Leaves b old new out_old out_new (Err Write) = (bytes : List ℕ) × IsPart b.named.function bytes old new × ForSome old (AreBytesOf b bytes)
Leaves b old new out_old out_new (Err stop) = (new ≡ old) × ForSome old (λ files. IsRefused b files out_old out_new stop)
