-- How passes over keys that were counted fail.
use Rattle.std.proofs.Common.{◌≡◌, ◌⊎◌, ℕ, inl, inr, arith, sym}
use Rattle.cm_brz_split.specs.Passes.{AreCounted, FailsAgain}
use Rattle.cm_io.specs.PassFaults.{FailsPass, IfChanged, IsOtherCount}
use Rattle.cm_io.specs.Passes.{Told}
use Rattle.cm_io.specs.declared.key_pass.KeyFault.TheVariants.{Read, TooLong, TooMany}
use Rattle.cm_io.specs.declared.key_pass.KeyPass.{Ghosts}
use Rattle.cm_io.specs.declared.pass_fault.PassFault.{PassFault}
use Rattle.cm_io.specs.declared.pass_fault.PassFault.TheVariants.{Changed, Key, Memory}
use Rattle.cm_judge_reports.specs.Faults.{DiffersInBucket, NumbersDiffer, judge_fault_of}

-- keys that were counted don't change
pub fails_again : (told : Told) (m : ℕ) (fault : PassFault) → AreCounted m told → FailsPass told m fault → FailsAgain told fault
fails_again told m Memory counted fails = tt
fails_again told m (Key Read) counted fails = tt
fails_again told m (Key (TooLong line)) counted fails = fails.1
fails_again told m (Key TooMany) counted fails = fails.1
fails_again told m (Changed first now) counted (inl more) = absurd (omega (arith, counted.many, more.0))
fails_again told m (Changed first now) counted (inr fewer) = absurd (omega (arith, counted.many, fewer.0))

-- passes that differ have numbers that differ
pub numbers_differ : {P : Type 0} (K : Ghosts P) (keys : P) (m : ℕ) (fault : PassFault) → IfChanged fault (λ first now. ((first ≡ m) × IsOtherCount first now (K.place keys)) ⊎ DiffersInBucket K keys first now) → NumbersDiffer (judge_fault_of fault)
numbers_differ K keys m Memory is = tt
numbers_differ K keys m (Key fault) is = tt
numbers_differ K keys m (Changed first now) (inl all) = all.1.differs
numbers_differ K keys m (Changed first now) (inr bucket) = λ same. bucket.differs (sym same)
