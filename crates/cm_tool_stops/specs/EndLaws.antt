-- Lemmas about counts that rise and about what is said, for those who call the steps of a job.
use Rattle.std.proofs.Common.{◌≡◌, ℕ, ◌<◌, ◌≤◌, ◌^◌, lit<, List, Bool, arith}
use Rattle.cm_io.specs.Causes.{Collects, Rose}
use Rattle.cm_io.specs.Noting.{HasNoted}
use Rattle.cm_io.specs.States.{SinkState}
use Rattle.cm_io.specs.NotingLaws.{noted_all, noted_front}
use Rattle.cm_tool_stops.specs.Ends.{Says}

-- a disk's count rose, if what it took back has failed
pub collected : (count count_now before middle now : ℕ) → (count ≤ count_now) × Rose count count_now → count ≡ 0 → Collects count_now middle now → middle ≡ before → Rose before now
collected count count_now before middle now failed fresh back same =
    let low : count < 2 ^ 63 = rw fresh (lit< tt) in
    rw same at (back.some (omega (arith, failed.1 low)))

-- all that was noted is said
pub says_all : {f : Bool} {a b : SinkState} {text : List ℕ} → HasNoted f a b text → Says a b text
says_all noted = record { front = noted_front noted; whole = noted_all noted }
