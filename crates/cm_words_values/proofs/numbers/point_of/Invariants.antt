use Rattle.std.proofs.Common.{◌≡◌, drop}
use Rattle.std.specs.Prelude.{◌==◌}
use Rattle.std.specs.List.{position_from}
use Rattle.cm_words_values.proofs.numbers.point_of.Given as goal

abbrev pub invariant-loop-i : goal.invariant-loop-i
invariant-loop-i l = position_from (λ b. b == 46) l.i (drop l.i l.text) ≡ position_from (λ b. b == 46) 0 l.text
