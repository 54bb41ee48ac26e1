-- Why there is no function of keys.
use Rattle.std.specs.Prelude.{◌≡◌, ◌≢◌, ◌<◌, ◌≤◌, ℕ, List, [], length, Option, None, Some, Result, Ok, Err}
use Rattle.cm_io.specs.Passes.{IsToldFault}
use Rattle.cm_algo_names.specs.declared.algorithm.Algorithm.{Algorithm}
use Rattle.cm_algo_names.specs.declared.algorithm.Algorithm.TheVariants.{Brz}
use Rattle.cm_brz_split.specs.declared.fault.BrzFault.{BrzFault}
use Rattle.cm_brz_split.specs.declared.fault.BrzFault.TheVariants as brz_fault
use Rattle.cm_io.specs.Causes.{Rose}
use Rattle.cm_io.specs.Passes.{HasKeyCause, Told}
use Rattle.cm_algo_seeds.specs.declared.fault.BuildFault.{BuildFault}
use Rattle.cm_algo_seeds.specs.declared.fault.BuildFault.TheVariants as build_fault
use Rattle.cm_witness_gather.specs.declared.failure.SeedFailure.TheVariants.{NoSeed, NoSeedFor, NoSplit}
use Rattle.cm_witness_gather.specs.declared.failure.SeedFailure.{SeedFailure}
use Rattle.cm_tool_builds.specs.Seeds.{NoneWorks}
use Rattle.cm_tool_cells.specs.Seeds.{IsChange}
use Rattle.cm_tool_builds.specs.Results.{FailureReport, result_by}
use Rattle.cm_tool_builds.specs.declared.fault.FuncFault.{FuncFault}
use Rattle.cm_tool_builds.specs.declared.fault.FuncFault.TheVariants.{Memory, NoKeys, Cored, Overfull, Key, Changed, Spill, SpillDamaged}
use Rattle.cm_witness_gather.specs.Reports.{overfull_text, report_text}
use Rattle.cm_witness_gather.specs.declared.certificate.Certificate.{Certificate}
use Rattle.cm_witness_gather.specs.declared.certificate.InBucket.{InBucket}
use Rattle.cm_witness_gather.specs.declared.certificate.Pair.{Pair}

-- the fault for a failed build by one seed
abbrev pub fault_from_build : BuildFault → FuncFault
fault_from_build build_fault.Memory = Memory
fault_from_build build_fault.NoKeys = NoKeys
fault_from_build (build_fault.Cored made) = Cored made
fault_from_build (build_fault.Key fault) = Key fault
fault_from_build (build_fault.Changed first again) = Changed first again

-- and for a failed build by BRZ
abbrev pub fault_from_brz : BrzFault → FuncFault
fault_from_brz brz_fault.Memory = Memory
fault_from_brz brz_fault.NoKeys = NoKeys
fault_from_brz (brz_fault.Overfull seed bucket count equal) = Overfull seed bucket count equal
fault_from_brz (brz_fault.Cored made) = Cored made
fault_from_brz (brz_fault.Key fault) = Key fault
fault_from_brz (brz_fault.Changed first again) = Changed first again
fault_from_brz brz_fault.SpillFailed = Spill
fault_from_brz (brz_fault.SpillDamaged offset expected found) = SpillDamaged offset expected found

-- `Key Read` exactly if the count k of the keys' faults rose, and `Spill` exactly if that of the disk's write faults, w, rose: never do
-- both
abbrev pub HasFuncCause : {T : Type 0} → ℕ → ℕ → ℕ → ℕ → Result T FuncFault → Type 0
HasFuncCause k k' w w' (Ok x) = (k' ≡ k) × (w' ≡ w)
HasFuncCause k k' w w' (Err Memory) = (k' ≡ k) × (w' ≡ w)
HasFuncCause k k' w w' (Err NoKeys) = (k' ≡ k) × (w' ≡ w)
HasFuncCause k k' w w' (Err (Cored made)) = (k' ≡ k) × (w' ≡ w)
HasFuncCause k k' w w' (Err (Overfull seed bucket count equal)) = (k' ≡ k) × (w' ≡ w)
HasFuncCause k k' w w' (Err (Key fault)) = HasKeyCause {T = Unit {0}} k k' (Err fault) × (w' ≡ w)
HasFuncCause k k' w w' (Err (Changed first again)) = (k' ≡ k) × (w' ≡ w)
HasFuncCause k k' w w' (Err Spill) = (k' ≡ k) × (w ≤ w') × Rose w w'
HasFuncCause k k' w w' (Err (SpillDamaged offset expected found)) = (k' ≡ k) × (w' ≡ w)

-- what a certificate shows: the keys of a bucket, or all keys, have no seed
abbrev pub seed_failure_of : Option InBucket → SeedFailure
seed_failure_of None = NoSeed
seed_failure_of (Some place) = NoSeedFor place.bucket

abbrev pub shown_core : Certificate → FailureReport
shown_core made = record { failure = seed_failure_of made.place; report = report_text made.algorithm made.place made.seed made.edges.items made.equal.items }

-- and an overfull bucket
abbrev pub shown_overfull : ℕ → ℕ → ℕ → List Pair → FailureReport
shown_overfull seed bucket count equal = record { failure = NoSplit; report = overfull_text seed bucket count equal }

-- keys with no fault at their end have no function, and this shows it
pub record HasNone (algorithm : Algorithm) (b : ℕ) (told : Told) (c : ℕ) (seeds : List ℕ) (shown : FailureReport) : Type 0 where
  pub no_fault : told.fault ≡ None
  pub some : 0 < length told.keys
  pub result_is : result_by algorithm b told.keys c seeds ≡ Err shown
  pub none : NoneWorks algorithm b told.keys c seeds

-- the refusals over keys and a spill with known contents: they never change, and what is refused is so by the keys alone, unless the
-- spill fails
abbrev pub FailsFunc : Algorithm → ℕ → Told → ℕ → List ℕ → FuncFault → Type 0
FailsFunc algorithm b told c seeds Memory = Unit {0}
FailsFunc algorithm b told c seeds NoKeys = (told.fault ≡ None) × (told.keys ≡ [])
FailsFunc algorithm b told c seeds (Cored made) = HasNone algorithm b told c seeds (shown_core made)
FailsFunc algorithm b told c seeds (Overfull seed bucket count equal) = HasNone algorithm b told c seeds (shown_overfull seed bucket count equal.items)
FailsFunc algorithm b told c seeds (Key fault) = IsToldFault told fault
FailsFunc algorithm b told c seeds (Changed first again) = ⊥
FailsFunc algorithm b told c seeds Spill = Unit {0}
FailsFunc algorithm b told c seeds (SpillDamaged offset expected found) = ⊥

-- keys that changed have such numbers; by BRZ they may be those of a bucket
abbrev pub IsChangeBy : Algorithm → ℕ → ℕ → Type 0
IsChangeBy Brz first again = again ≢ first
IsChangeBy algorithm first again = IsChange first again

-- BRZ alone has a spill
abbrev pub UsesSpill : Algorithm → Type 0
UsesSpill Brz = Unit {0}
UsesSpill algorithm = ⊥

-- why there may be no function by an algorithm
abbrev pub IsSeedFailureBy : Algorithm → SeedFailure → Type 0
IsSeedFailureBy Brz NoSeed = ⊥
IsSeedFailureBy Brz failure = Unit {0}
IsSeedFailureBy algorithm NoSeed = Unit {0}
IsSeedFailureBy algorithm failure = ⊥

-- what a fault has, whatever the keys and the spill are: numbers of keys that changed, two numbers of a damaged spill that differ, and a
-- failure of the algorithm's seeds
abbrev pub HasFuncForm : Algorithm → FuncFault → Type 0
HasFuncForm algorithm (Cored made) = IsSeedFailureBy algorithm (seed_failure_of made.place)
HasFuncForm algorithm (Overfull seed bucket count equal) = IsSeedFailureBy algorithm NoSplit
HasFuncForm algorithm (Changed first again) = IsChangeBy algorithm first again
HasFuncForm algorithm Spill = UsesSpill algorithm
HasFuncForm algorithm (SpillDamaged offset expected found) = UsesSpill algorithm × (expected ≢ found)
HasFuncForm algorithm fault = Unit {0}
