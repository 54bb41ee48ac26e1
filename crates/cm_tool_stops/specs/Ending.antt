-- What a job comes to, and what that does to all that a command changes.
use Rattle.std.specs.Prelude.{◌≡◌, ◌⊎◌, ℕ, List, [], Option, Some}
use Rattle.cm_io.specs.Files.{Files}
use Rattle.cm_io.specs.States.{Outside}
use Rattle.cm_io.specs.Writing.{then_bytes}
use Rattle.cm_tool_stops.specs.Ends.{Says}

-- the status, what out and err get, and the files that are left
pub record Outcome : Type 0 where
  pub status : ℕ
  pub out : List ℕ
  pub err : List ℕ
  pub files : Files

-- a text on out, and nothing else
abbrev pub printing : List ℕ → Files → Outcome
printing text files = record { status = 0; out = text; err = []; files = files }

-- a failure: a status and a message, and nothing else
abbrev pub refusal : ℕ → List ℕ → Files → Outcome
refusal status text files = record { status = status; out = []; err = text; files = files }

-- the outcome is what came
pub record Reaches (old new : Outside) (found : Option Outcome) (status : ℕ) : Type 0 where
  pub outcome : Outcome
  pub is : found ≡ Some outcome
  pub status_is : status ≡ outcome.status
  pub out : new.out.written ≡ then_bytes old.out.written outcome.out
  pub err : Says old.err new.err outcome.err
  pub files_are : new.disk.files ≡ Some outcome.files

-- a file that is needed isn't there: nothing was done
pub record LacksFile (old new : Outside) (status : ℕ) : Type 0 where
  pub status_is : (status ≡ 4) ⊎ (status ≡ 6)
  pub files_are : new.disk.files ≡ old.disk.files
  pub out : new.out.written ≡ old.out.written
