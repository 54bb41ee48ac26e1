-- Builds into lent memory.
use Rattle.std.specs.Prelude.{◌≡◌, ◌<◌, ◌≤◌, ◌+◌, ℕ, zero, suc, List, length, take, drop, None}
use Rattle.cm_dump.specs.Dumps.{dump_of}
use Rattle.cm_func.specs.declared.function.Func.{Func}
use Rattle.cm_io.specs.Passes.{Told}
use Rattle.cm_keys_lent.specs.Ends.{key_in, keys_in}
use Rattle.cm_keys_lent.specs.Pass.{LentPass}
use Rattle.cm_tool_builds.specs.FuncOf.{IsFuncOf}
use Rattle.cm_tool_builds.specs.Faults.{FailsFunc, HasFuncForm}
use Rattle.cm_tool_builds.specs.declared.fault.FuncFault.TheVariants as fault
use Rattle.cm_tool_builds.specs.declared.plan.Plan.{Plan}
use Rattle.cm_lib_lent.specs.declared.building.LentFault.{LentFault}
use Rattle.cm_lib_lent.specs.declared.building.LentFault.TheVariants as faults

-- the keys of a pass over lent keys
abbrev pub told_of : LentPass → Told
told_of pass = record { keys = keys_in pass.bytes pass.ends; fault = None }

-- the function of lent keys by a plan
abbrev pub IsLentFunc : Plan → List ℕ → LentPass → Func → Type 0
IsLentFunc plan seeds keys f = IsFuncOf plan.algorithm plan.b (told_of keys) plan.c seeds f

-- The first n bytes of the room are the dump of the function of the keys, and all others are as they were.
pub record IsSaved (plan : Plan) (seeds : List ℕ) (keys : LentPass) (n : ℕ) (old new : List ℕ) : Type 0 where
  pub func : Func
  pub made : IsLentFunc plan seeds keys func
  pub len : n ≡ length (dump_of func)
  pub dump : take n new ≡ dump_of func
  pub kept : drop n new ≡ drop n old

-- Why there is no dump in the room: there is no function, or its dump has more bytes than the room.
abbrev pub FailsLent : Plan → List ℕ → LentPass → ℕ → LentFault → Type 0
FailsLent plan seeds keys room (faults.Build why) = FailsFunc plan.algorithm plan.b (told_of keys) plan.c seeds why × HasFuncForm plan.algorithm why
FailsLent plan seeds keys room (faults.Room needed) = (f : Func) × IsLentFunc plan seeds keys f × (needed ≡ length (dump_of f)) × (room < needed)
FailsLent plan seeds keys room (faults.Spill needed) = ⊥

-- how many bytes the first n keys have in a spill: their own, and ten more for each
abbrev pub spill_upto : List ℕ → List ℕ → ℕ → ℕ
spill_upto bytes ends zero = 0
spill_upto bytes ends (suc n) = spill_upto bytes ends n + length (key_in bytes ends n) + 10

-- how many bytes the spill of keys has
abbrev pub spill_len_of : LentPass → ℕ
spill_len_of keys = spill_upto keys.bytes keys.ends (length keys.ends)

-- why there is no dump by BRZ in the room: the spill is too small, or else as by the other algorithms
abbrev pub FailsSpilled : Plan → List ℕ → LentPass → ℕ → ℕ → LentFault → Type 0
FailsSpilled plan seeds keys spill room (faults.Spill needed) = (needed ≡ spill_len_of keys) × (spill < needed)
FailsSpilled plan seeds keys spill room (faults.Build why) = (spill_len_of keys ≤ spill) × FailsLent plan seeds keys room (faults.Build why)
FailsSpilled plan seeds keys spill room (faults.Room needed) = (spill_len_of keys ≤ spill) × FailsLent plan seeds keys room (faults.Room needed)

-- the refusals that there are: memory may run out, there may be no keys, or no seed works, or the room is too small
abbrev pub IsLentKind : LentFault → Type 0
IsLentKind (faults.Room needed) = Unit {0}
IsLentKind (faults.Build fault.Memory) = Unit {0}
IsLentKind (faults.Build fault.NoKeys) = Unit {0}
IsLentKind (faults.Build (fault.Cored shown)) = Unit {0}
IsLentKind other = ⊥

-- those of a build by BRZ: every seed may also leave a bucket with too many keys, and the spill may be too small
abbrev pub IsSpilledKind : LentFault → Type 0
IsSpilledKind (faults.Room needed) = Unit {0}
IsSpilledKind (faults.Spill needed) = Unit {0}
IsSpilledKind (faults.Build fault.Memory) = Unit {0}
IsSpilledKind (faults.Build fault.NoKeys) = Unit {0}
IsSpilledKind (faults.Build (fault.Cored shown)) = Unit {0}
IsSpilledKind (faults.Build (fault.Overfull seed bucket count equal)) = Unit {0}
IsSpilledKind other = ⊥

-- the first n bytes of the room are the dump of a function, and all others are as they were
pub record HasDump (f : Func) (n : ℕ) (old new : List ℕ) : Type 0 where
  pub len : n ≡ length (dump_of f)
  pub dump : take n new ≡ dump_of f
  pub kept : drop n new ≡ drop n old

-- why a dump is not in the room: memory ran out, or the dump has more bytes than the room
abbrev pub LacksDump : Func → ℕ → LentFault → Type 0
LacksDump f room (faults.Build fault.Memory) = Unit {0}
LacksDump f room (faults.Room needed) = (needed ≡ length (dump_of f)) × (room < needed)
LacksDump f room other = ⊥
