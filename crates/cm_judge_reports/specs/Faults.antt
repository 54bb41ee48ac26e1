-- What passes over the keys of a report come to, and why it is not judged.
use Rattle.std.specs.Prelude.{◌≡◌, ◌≢◌, ◌⊎◌, ℕ, ◌≤◌, [], Option, None, Some, Result, Ok, Err, IfErr, IfSome}
use Rattle.std.specs.Option.{ForSome}
use Rattle.cm_brz_split.specs.Given.{CountedBucket, GaveCount}
use Rattle.cm_brz_split.specs.Passes.{FailsAgain}
use Rattle.cm_io.specs.PassFaults.{HasPassCause, HasPassFailure, HasPassed, IsOtherCount}
use Rattle.cm_io.specs.Passes.{HasKeyCause, IsToldFault, Told}
use Rattle.cm_io.specs.declared.key_pass.KeyFault.{KeyFault}
use Rattle.cm_io.specs.declared.key_pass.KeyPass.{Ghosts}
use Rattle.cm_io.specs.declared.pass_fault.PassFault.{PassFault}
use Rattle.cm_io.specs.declared.pass_fault.PassFault.TheVariants as pass_fault
use Rattle.cm_judge_reports.specs.declared.fault.JudgeFault.{JudgeFault}
use Rattle.cm_judge_reports.specs.declared.fault.JudgeFault.TheVariants.{Changed, Key, Memory, NoKeys}
use Rattle.cm_judge_verdict.specs.declared.verdict.Settings.{Settings}
use Rattle.cm_spec.specs.Rule.{IsRatio}
use Rattle.cm_spec.specs.declared.limits.TheConstants.{MAX_WIDTH, MIN_WIDTH}

-- what a call does to a pass over keys that were counted: it leaves what is known of them, and fails as the pass does, or, unless they are
-- known, if there are others now
pub record PassesAgain {P T : Type 0} (K : Ghosts P) (old new : P) (result : Result T PassFault) : Type 0 where
  pub told : K.told new ≡ K.told old
  pub cause : HasPassCause (K.faults old) (K.faults new) result
  pub failed : IfErr result (HasPassFailure (K.failure new))
  pub fault : IfErr result (λ fault. ForSome (K.told old) (λ told. FailsAgain told fault))

-- the fault of a judge who fails in one of the passes
abbrev pub judge_fault_of : PassFault → JudgeFault
judge_fault_of pass_fault.Memory = Memory
judge_fault_of (pass_fault.Key fault) = Key fault
judge_fault_of (pass_fault.Changed first now) = Changed first now

-- the settings that a build may have
pub record AreSettings (settings : Settings) : Type 0 where
  pub ratio : IfSome settings.c IsRatio
  pub width : (MIN_WIDTH ≤ settings.b) × (settings.b ≤ MAX_WIDTH)

-- `Key Read` exactly if the count of the keys' faults rose
abbrev pub HasJudgeCause : {T : Type 0} → ℕ → ℕ → Result T JudgeFault → Type 0
HasJudgeCause before now (Ok x) = now ≡ before
HasJudgeCause before now (Err Memory) = now ≡ before
HasJudgeCause before now (Err NoKeys) = now ≡ before
HasJudgeCause before now (Err (Key fault)) = HasKeyCause {T = Unit {0}} before now (Err fault)
HasJudgeCause before now (Err (Changed first again)) = now ≡ before

-- `Key` has the fault that the pass failed with last
abbrev pub HasJudgeFailure : Option KeyFault → JudgeFault → Type 0
HasJudgeFailure failure (Key fault) = failure ≡ Some fault
HasJudgeFailure failure fault = Unit {0}

-- two passes differ: one that came to its end gave `first` keys, and the last one gave `now` and stopped, or came to its end
abbrev pub DiffersInAll : {P : Type 0} → Ghosts P → P → ℕ → ℕ → Type 0
DiffersInAll K keys first now = HasPassed K.at_end K.place first × IsOtherCount first now (K.place keys)

-- and two passes that gave a bucket, of k, different numbers of keys
pub record DiffersInBucket {P : Type 0} (K : Ghosts P) (keys : P) (first now : ℕ) : Type 0 where
  pub k : ℕ
  pub split : ℕ
  pub bucket : ℕ
  pub counted : CountedBucket K.at_end K.gave k split bucket first
  pub gave : GaveCount (K.gave keys) k split bucket now
  pub differs : first ≢ now

-- whatever the keys are: without keys the pass came to its end, and `Changed` has the numbers of two passes, which differ
abbrev pub HasJudgeCounts : {P : Type 0} → Ghosts P → P → JudgeFault → Type 0
HasJudgeCounts K keys NoKeys = (K.place keys ≡ 0) × K.at_end keys
HasJudgeCounts K keys (Changed first now) = DiffersInAll K keys first now ⊎ DiffersInBucket K keys first now
HasJudgeCounts K keys fault = Unit {0}

-- and so the two numbers of `Changed` differ
abbrev pub NumbersDiffer : JudgeFault → Type 0
NumbersDiffer (Changed first now) = now ≢ first
NumbersDiffer fault = Unit {0}

-- the failures over known keys: the keys never change
abbrev pub FailsJudge : Told → JudgeFault → Type 0
FailsJudge told Memory = Unit {0}
FailsJudge told NoKeys = (told.keys ≡ []) × (told.fault ≡ None)
FailsJudge told (Key fault) = IsToldFault told fault
FailsJudge told (Changed first now) = ⊥
