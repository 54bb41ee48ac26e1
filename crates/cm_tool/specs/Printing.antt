-- What a run that prints the help or the version does.
use Rattle.std.specs.Prelude.{◌≡◌, ℕ, List, [], ◌∷◌, take, Some}
use Rattle.cm_io.specs.States.{Outside}
use Rattle.cm_io.specs.Writing.{then_bytes}
use Rattle.cm_tool.specs.Said.{cmph}
use Rattle.cm_tool_stops.specs.Does.{Does, Frame}
use Rattle.cm_tool_stops.specs.Ending.{printing}
use Rattle.cm_tool_stops.specs.Ends.{IsPrintMessage, Says}

-- how it may end
abbrev pub MayEnd : Outside → Outside → ℕ → Type 0
MayEnd old new status = (said : List ℕ) × IsPrintMessage cmph status said × Says old.err new.err said

-- its frame: it reads and changes no file
abbrev pub print_frame : List ℕ → Frame
print_frame text = record {
  statuses = 0 ∷ 5 ∷ 6 ∷ [];
  outcome = λ files. Some (printing text files);
  saves = [];
  prints = 0 ∷ 5 ∷ [];
  writes = ⊥;
  spills = ⊥;
  leaves = λ old new status. Unit {0};
  ends = MayEnd;
}

-- A run that prints a text. Out gets a prefix of it, also if out fails.
pub record Prints (text : List ℕ) (old new : Outside) (result : ℕ) : Type 0 where
  pub does : Does (print_frame text) old new result
  pub front : (n : ℕ) × (new.out.written ≡ then_bytes old.out.written (take n text))
