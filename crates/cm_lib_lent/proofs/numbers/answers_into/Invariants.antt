use Rattle.std.proofs.Common.{◌*◌, min, length}
use Rattle.cm_lib_lent.specs.Numbers.{ArePut}
use Rattle.cm_lib_lent.proofs.numbers.answers_into.Given as goal

-- the numbers of the batches before are put
abbrev pub invariant-loop-g : goal.invariant-loop-g
invariant-loop-g g l = ArePut (g.A.Answers.answer_of l.function) l.keys 0 (min (length l.keys.ends) (32 * l.g)) l.initial.numbers l.numbers
