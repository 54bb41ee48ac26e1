-- What a run of a job does to disk, out and err: one record for the jobs of all programs.
use Rattle.std.specs.Prelude.{◌≡◌, ◌≢◌, ◌<◌, ◌^◌, ◌⊎◌, ◌↔◌, ℕ, List, [], Option, None, true, false}
use Rattle.std.specs.Option.{ForSome}
use Rattle.cm_io.specs.Files.{Files}
use Rattle.cm_io.specs.States.{IsSent, Outside}
use Rattle.cm_spec.specs.Lists.{has}
use Rattle.cm_tool_stops.specs.Ending.{LacksFile, Outcome, Reaches}

-- What is known of a job: the statuses of its runs; what known files make of a run, or nothing if a file that it needs isn't there; the
-- statuses with which files may differ, and those with which out may have got something; whether it writes to the disk, and whether it
-- uses a spill; what it may leave if it could not read or write, or memory ran out; and how it may end, with what is said on err.
pub record Frame : Type 1 where
  pub statuses : List ℕ
  pub outcome : Files → Option Outcome
  pub saves : List ℕ
  pub prints : List ℕ
  pub writes : Type 0
  pub spills : Type 0
  pub leaves : Outside → Outside → ℕ → Type 0
  pub ends : Outside → Outside → ℕ → Type 0

-- the counts of faults that a job can raise by writing are low enough to rise
pub record AreLow (f : Frame) (old : Outside) : Type 0 where
  pub disk : f.writes → old.disk.write_faults < 2 ^ 63
  pub out : f.prints ≢ [] → old.out.faults < 2 ^ 63

-- A run that found disk, out and err in the old state left them in the new one, with this status.
pub record Does (f : Frame) (old new : Outside) (result : ℕ) : Type 0 where
  pub status : has f.statuses result ≡ true
  -- The status is 4 exactly if the count of read faults rises.
  pub read : old.disk.read_faults < 2 ^ 63 → ((result ≡ 4) ↔ (old.disk.read_faults < new.disk.read_faults))
  -- The status is 5 exactly if the count of write faults or that of out rises.
  pub write : AreLow f old → ((result ≡ 5) ↔ ((old.disk.write_faults < new.disk.write_faults) ⊎ (old.out.faults < new.out.faults)))
  -- If memory doesn't run out and nothing fails, status, out, err and files are what the files make of the job.
  pub outcome : result ≢ 4 → result ≢ 5 → result ≢ 6 → ForSome old.disk.files (λ files. Reaches old new (f.outcome files) result)
  -- If a file that is needed isn't there, the status is 4, or 6 if memory runs out, and nothing is done.
  pub missing : ForSome old.disk.files (λ files. f.outcome files ≡ None → LacksFile old new result)
  -- If the files are known, the status is never 7: nothing changes between passes.
  pub unchanged : ForSome old.disk.files (λ _. result ≢ 7)
  -- The files are as they were, unless they are saved; out got nothing, unless something is printed.
  pub kept : has f.saves result ≡ false → new.disk.files ≡ old.disk.files
  pub silent : has f.prints result ≡ false → new.out.written ≡ old.out.written
  -- A job that prints nothing doesn't touch out, and one that doesn't write to the disk raises no count of it and makes no spill.
  pub out : f.prints ≡ [] → new.out ≡ old.out
  pub unwritten : (f.writes → ⊥) → new.disk.write_faults ≡ old.disk.write_faults
  pub unspilled : (f.spills → ⊥) → new.disk.spilled ≡ old.disk.spilled
  -- What is left if the run could not read or write, or memory ran out.
  pub left : (result ≡ 4) ⊎ (result ≡ 5) ⊎ (result ≡ 6) → f.leaves old new result
  -- If the buffer of out or err was empty before the call, it is empty after it, or the count of this sink rose.
  pub sent : old.out.waits ≡ 0 → IsSent old.out new.out
  pub err_sent : old.err.waits ≡ 0 → IsSent old.err new.err
  -- Err gets what is said of the end, or a prefix of that if err itself fails.
  pub err : f.ends old new result
