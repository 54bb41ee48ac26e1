use Rattle.cm_lib_lent.specs.Numbers.{ArePut}
use Rattle.cm_lib_lent.proofs.numbers.put_numbers.Given as goal

-- the numbers of the keys before are put
abbrev pub invariant-loop-i : goal.invariant-loop-i
invariant-loop-i g l = ArePut (g.A.Answers.answer_of l.function) l.keys l.from l.i l.initial.numbers l.numbers
