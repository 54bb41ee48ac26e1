-- From a text that was written to what out has.
use Rattle.std.proofs.Common.{◌≡◌, ◌∙◌, ℕ, List, length, take, Option, Result, Ok, Err, ap, sym, arith}
use Rattle.std.proofs.lemmas.List.{take_all}
use Rattle.cm_io.specs.Writing.{Writes, then_bytes}
use Rattle.cm_io.specs.declared.fault.Failed.{Failed}

-- out has a prefix of a text that was written, whole or in part
pub front_of : (r : Result (Unit {0}) Failed) (old new : Option (List ℕ)) (text : List ℕ) → Writes old new text r → (n : ℕ) × (new ≡ then_bytes old (take n text))
front_of (Ok _) old new text wrote = (length text, wrote ∙ ap (then_bytes old) (sym (take_all (length text) text (omega arith))))
front_of (Err _) old new text wrote = wrote
