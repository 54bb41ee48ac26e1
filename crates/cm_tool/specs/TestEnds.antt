-- How a test ends, by its outcome over files with known contents.
use Rattle.std.specs.Prelude.{◌≡◌, ◌⊎◌, ◌++◌, ℕ, List, [], ◌∷◌, codes, take, Option, Some, Result, Ok, Err}
use Rattle.std.specs.Option.{ForSome}
use Rattle.cm_algo_names.specs.declared.algorithm.Algorithm.{Algorithm}
use Rattle.cm_algo_names.specs.declared.algorithm.Algorithm.TheVariants.{Chm, Bdz, BdzPh, Brz}
use Rattle.cm_io.specs.Causes.{Rose}
use Rattle.cm_io.specs.Files.{Files}
use Rattle.cm_io.specs.States.{Outside, SinkState}
use Rattle.cm_io.specs.Writing.{then_bytes}
use Rattle.cm_tool_stops.specs.Does.{Does, Frame}
use Rattle.cm_tool_stops.specs.Ends.{Says, message_of}
use Rattle.cm_tool.specs.Said.{cmph, naming}
use Rattle.cm_tool.specs.Spills.{TestSpilled}
use Rattle.cm_tool_building.specs.Builds.{end_status}
use Rattle.cm_tool_building.specs.Leaves.{HasOutCause}
use Rattle.cm_tool_stops.specs.Messages.{cannot_use_spill, cannot_write_out, seed_failure_message}
use Rattle.cm_tool_stops.specs.declared.stop.Stop.TheVariants.{Memory, Read, Refused, Spill, Write, WriteOut}
use Rattle.cm_tool_stops.specs.declared.stop.Stop.{Stop}
use Rattle.cm_tool_builds.specs.Faults.{UsesSpill, shown_core, shown_overfull}
use Rattle.cm_tool.specs.Stops.{HasStopForm}
use Rattle.cm_tool.specs.Ending.{Outcome}
use Rattle.cm_tool.specs.Tested.{test_outcome, test_result, tested_by}
use Rattle.cm_tool_builds.specs.declared.fault.FuncFault.{FuncFault}
use Rattle.cm_tool_builds.specs.declared.fault.FuncFault.TheVariants as func_fault
use Rattle.cm_words.specs.declared.jobs.TestJob.{TestJob}

-- why an algorithm has no function of generated keys, which never change and have no fault
abbrev pub FailsTest : TestJob → Algorithm → FuncFault → Type 0
FailsTest job algorithm func_fault.Memory = Unit {0}
FailsTest job algorithm (func_fault.Cored made) = test_result job algorithm ≡ Err (shown_core made)
FailsTest job algorithm (func_fault.Overfull seed bucket count equal) = test_result job algorithm ≡ Err (shown_overfull seed bucket count equal.items)
FailsTest job algorithm func_fault.Spill = Unit {0}
FailsTest job algorithm fault = ⊥

-- out got a prefix of a text
abbrev pub GotPrefix : List ℕ → Option (List ℕ) → Option (List ℕ) → Type 0
GotPrefix text old new = (n : ℕ) × (new ≡ then_bytes old (take n text))

-- a test with this outcome came to its end, or why it stopped, and what out had before and has now
abbrev pub EndsTest : Outcome → Option (List ℕ) → Option (List ℕ) → Result (Unit {0}) Stop → Type 0
EndsTest o old new (Ok _) = (o.status ≡ 0) × (o.err ≡ []) × (new ≡ then_bytes old o.out)
EndsTest o old new (Err (Refused failure)) = (o.status ≡ 1) × (o.err ≡ seed_failure_message cmph failure) × (new ≡ then_bytes old o.out)
EndsTest o old new (Err Memory) = GotPrefix o.out old new
EndsTest o old new (Err Spill) = GotPrefix o.out old new
EndsTest o old new (Err WriteOut) = GotPrefix o.out old new
EndsTest o old new (Err stop) = ⊥

-- if the spill failed, out got the lines of the algorithms before one that has a spill
abbrev pub StopsSpilling : TestJob → Files → List Algorithm → Option (List ℕ) → Option (List ℕ) → Stop → Type 0
StopsSpilling job files algorithms old new Spill = (first : List Algorithm) × (algorithm : Algorithm) × (next : List Algorithm) × UsesSpill algorithm × (algorithms ≡ first ++ algorithm ∷ next) × EndsTest (tested_by job files first) old new (Ok tt)
StopsSpilling job files algorithms old new stop = Unit {0}

-- what a stop has, whether or not the files are known: a test reads and writes no file
abbrev pub HasTestForm : Algorithm → Stop → Type 0
HasTestForm algorithm Read = ⊥
HasTestForm algorithm Write = ⊥
HasTestForm algorithm stop = HasStopForm algorithm stop

-- what messages call the generated keys
abbrev pub test_name : List ℕ
test_name = codes "-T"

-- out failed, and got a prefix of what the test prints; the message is that of out
abbrev pub PrintedPart : SinkState → SinkState → Files → List ℕ → TestJob → Type 0
PrintedPart old new files text job = GotPrefix (test_outcome job files).out old.written new.written × Rose old.faults new.faults × (text ≡ cannot_write_out cmph)

-- the spill of BRZ failed, after out got the lines of the other algorithms; the message names the directory
abbrev pub PrintedOthers : SinkState → SinkState → Files → List ℕ → TestJob → Type 0
PrintedOthers old new files text job = EndsTest (tested_by job files (Chm ∷ Bdz ∷ BdzPh ∷ [])) old.written new.written (Ok tt) × (new.faults ≡ old.faults) × (text ≡ cannot_use_spill cmph job.dir)

-- what a test that could not write leaves of out, by what its message names
pub record IsUnfinishedTest (old new : Outside) (files : Files) (job : TestJob) : Type 0 where
  pub text : List ℕ
  pub says : Says old.err new.err text
  pub part : PrintedPart old.out new.out files text job ⊎ PrintedOthers old.out new.out files text job

-- what a test that could not write, or for which memory ran out, may leave: lines of its text on out
pub record MayLeave (job : TestJob) (old new : Outside) (status : ℕ) : Type 0 where
  pub part : ForSome old.disk.files (λ files. GotPrefix (test_outcome job files).out old.out.written new.out.written)
  pub unfinished : status ≡ 5 → ForSome old.disk.files (λ files. IsUnfinishedTest old new files job)

-- the form of an end, and what is said of it
abbrev pub IsTestForm : Result (Unit {0}) Stop → Type 0
IsTestForm (Ok _) = Unit {0}
IsTestForm (Err stop) = (algorithm : Algorithm) × HasTestForm algorithm stop

abbrev pub end_message : TestJob → Result (Unit {0}) Stop → List ℕ
end_message job (Ok _) = []
end_message job (Err stop) = message_of (naming test_name []) job.dir stop

-- The test came to its end, or stopped: which count the stop raised, its status, and what was said.
pub record IsEnd (job : TestJob) (old new : Outside) (status : ℕ) (end : Result (Unit {0}) Stop) : Type 0 where
  pub form : IsTestForm end
  pub out_cause : HasOutCause old.out.faults new.out.faults end
  pub status_is : status ≡ end_status end
  pub says : Says old.err new.err (end_message job end)

abbrev pub MayEnd : TestJob → Outside → Outside → ℕ → Type 0
MayEnd job old new status = (end : Result (Unit {0}) Stop) × IsEnd job old new status end

-- Its frame: it reads and changes no file, and prints the lines of its algorithms.
abbrev pub test_frame : TestJob → Frame
test_frame job = record {
  statuses = 0 ∷ 1 ∷ 5 ∷ 6 ∷ 7 ∷ 8 ∷ [];
  outcome = λ files. Some (test_outcome job files);
  saves = [];
  prints = 0 ∷ 1 ∷ 5 ∷ 6 ∷ 7 ∷ 8 ∷ [];
  writes = Unit {0};
  spills = Unit {0};
  leaves = MayLeave job;
  ends = MayEnd job;
}

-- A test. It ends with a build by BRZ, whose spill holds the records of the generated keys.
pub record Tests (job : TestJob) (old new : Outside) (result : ℕ) : Type 0 where
  pub does : Does (test_frame job) old new result
  pub spilled : result ≡ 0 → ForSome old.disk.files (λ _. TestSpilled job Brz old.disk.spilled new.disk.spilled)
