-- Messages to a sink that may fail.
use Rattle.std.specs.Prelude.{◌≡◌, ◌≤◌, ℕ, List, Bool, true, false, take}
use Rattle.cm_io.specs.Writing.{then_bytes}
use Rattle.cm_io.specs.States.{SinkState}
use Rattle.cm_io.specs.Causes.{Rose}

-- What all notes to a sink did to it: it was given the text; or, if a note has failed, a prefix of the text, and its count rose.
pub record HasNoted (failed : Bool) (old new : SinkState) (text : List ℕ) : Type 0 where
  pub all : failed ≡ false → (new.written ≡ then_bytes old.written text) × (new.faults ≡ old.faults)
  pub part : failed ≡ true → ((n : ℕ) × (new.written ≡ then_bytes old.written (take n text))) × (old.faults ≤ new.faults) × Rose old.faults new.faults

-- One note. If one has failed before, nothing is written.
pub record Noted (had_failed failed : Bool) (old new : SinkState) (piece : List ℕ) : Type 0 where
  pub wrote : had_failed ≡ false → HasNoted failed old new piece
  pub silent : had_failed ≡ true → (failed ≡ true) × (new ≡ old)
