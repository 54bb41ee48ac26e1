-- Why a build fails.
use Rattle.std.specs.Prelude.{◌≡◌, ◌≢◌, ℕ, ◌<◌, ◌≤◌, List, [], All, length, slice_index, is_some, Option, None, Some, Result, Ok, Err}
use Rattle.cm_algo_names.specs.declared.algorithm.Algorithm.{Algorithm}
use Rattle.cm_io.specs.Passes.{Told, HasKeyCause, IsToldFault}
use Rattle.cm_io.specs.declared.key_pass.KeyFault.{KeyFault}
use Rattle.cm_io.specs.declared.key_pass.KeyPass.{Ghosts}
use Rattle.cm_spec.specs.Rule.{Rule}
use Rattle.cm_spec.specs.Built.{first_seed, AllCored}
use Rattle.cm_witness_gather.specs.Cores.{edges_left, pairs_left}
use Rattle.cm_io.specs.PassFaults.{HasPassed, IsOtherCount}
use Rattle.cm_witness_gather.specs.Gathers.{has_third}
use Rattle.cm_witness_gather.specs.declared.certificate.Certificate.{Certificate}
use Rattle.cm_io.specs.declared.pass_fault.PassFault.{PassFault}
use Rattle.cm_io.specs.declared.pass_fault.PassFault.TheVariants as pass_fault
use Rattle.cm_algo_seeds.specs.declared.fault.BuildFault.{BuildFault}
use Rattle.cm_algo_seeds.specs.declared.fault.BuildFault.TheVariants.{Memory, NoKeys, Cored, Key, Changed}

-- the fault of a build that fails in one of its passes
abbrev pub build_fault_of : PassFault → BuildFault
build_fault_of pass_fault.Memory = Memory
build_fault_of (pass_fault.Key fault) = Key fault
build_fault_of (pass_fault.Changed first now) = Changed first now

-- `Key Read` exactly if the count of the keys' faults rose
abbrev pub HasBuildCause : {T : Type 0} → ℕ → ℕ → Result T BuildFault → Type 0
HasBuildCause before now (Ok x) = now ≡ before
HasBuildCause before now (Err Memory) = now ≡ before
HasBuildCause before now (Err NoKeys) = now ≡ before
HasBuildCause before now (Err (Cored made)) = now ≡ before
HasBuildCause before now (Err (Key fault)) = HasKeyCause {T = Unit {0}} before now (Err fault)
HasBuildCause before now (Err (Changed first again)) = now ≡ before

-- the numbers of a build's failure, by how many keys its last pass took: none for `NoKeys`
abbrev pub HasNumbers : ℕ → BuildFault → Type 0
HasNumbers place Memory = Unit {0}
HasNumbers place NoKeys = place ≡ 0
HasNumbers place (Cored made) = Unit {0}
HasNumbers place (Key fault) = Unit {0}
HasNumbers place (Changed first now) = (1 ≤ first) × IsOtherCount first now place

-- `Key` has the fault that the pass failed with last
abbrev pub HasBuildFailure : Option KeyFault → BuildFault → Type 0
HasBuildFailure failure (Key fault) = failure ≡ Some fault
HasBuildFailure failure fault = Unit {0}

-- whatever the keys are: without keys the pass came to its end, and the first number of `Changed` is how many keys a pass had that did
abbrev pub HasCounted : {P : Type 0} → (P → Type 0) → (P → ℕ) → P → BuildFault → Type 0
HasCounted at_end place keys NoKeys = at_end keys
HasCounted at_end place keys (Changed first now) = HasPassed at_end place first
HasCounted at_end place keys fault = Unit {0}

-- the certificate shows the 2-core of the keys' graph under a seed: its edges with their lines, and which of its keys are equal
pub record ShowsCore (r : Rule) (keys : List (ℕ × List ℕ)) (c seed : ℕ) (made : Certificate) : Type 0 where
  pub edges : made.edges.items ≡ edges_left r keys c seed
  pub equal : made.equal.items ≡ pairs_left r keys c seed

-- a certificate, whatever the keys are, has this algorithm and seed, no bucket, and as many ends an edge as the algorithm
abbrev pub HasForm : Algorithm → ℕ → BuildFault → Type 0
HasForm algorithm seed (Cored made) = (made.algorithm ≡ algorithm) × (made.seed ≡ seed) × (made.place ≡ None) × All (λ e. is_some e.third ≡ has_third algorithm) made.edges.items
HasForm algorithm seed fault = Unit {0}

-- what a failure says, whatever the keys are: the fault that the pass failed with last, the numbers of the last pass and of one before it
-- that came to its end, and a certificate under this seed
pub record IsFailure {P : Type 0} (K : Ghosts P) (keys : P) (algorithm : Algorithm) (seed : ℕ) (fault : BuildFault) : Type 0 where
  pub failed : HasBuildFailure (K.failure keys) fault
  pub numbers : HasNumbers (K.place keys) fault
  pub counted : HasCounted K.at_end K.place keys fault
  pub certificate : HasForm algorithm seed fault

-- a build failed with a certificate that has equal keys
abbrev pub FoundEqual : BuildFault → Type 0
FoundEqual (Cored made) = made.equal.items ≢ []
FoundEqual fault = ⊥

-- the failures of a build over known keys: the keys never change, and a failure depends on them alone
abbrev pub FailsBuild : Rule → Told → ℕ → List ℕ → BuildFault → Type 0
FailsBuild r told c seeds Memory = Unit {0}
FailsBuild r told c seeds NoKeys = (told.keys ≡ []) × (told.fault ≡ None)
FailsBuild r told c seeds (Cored made) = (0 < length told.keys) × (told.fault ≡ None) × (first_seed r told.keys c seeds ≡ None) × AllCored r told.keys c seeds × ShowsCore r told.keys c (slice_index seeds 0) made
FailsBuild r told c seeds (Key fault) = IsToldFault told fault
FailsBuild r told c seeds (Changed first again) = ⊥
