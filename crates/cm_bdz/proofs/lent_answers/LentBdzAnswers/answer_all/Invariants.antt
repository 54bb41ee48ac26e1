use Rattle.std.specs.Prelude.{length}
use Rattle.cm_algo_scheme.specs.Answering.{AnswersFirst}
use Rattle.cm_bdz.specs.Lent.{held_answer}
use Rattle.cm_bdz.specs.Places.{bdz_place}
use Rattle.cm_spec.specs.Lookup2 as lookup2
use Rattle.cm_bdz.proofs.lent_answers.LentBdzAnswers.answer_all.Given as goal

-- the places before have their answers
abbrev pub invariant-loop-i : goal.invariant-loop-i
invariant-loop-i l = AnswersFirst (λ key. bdz_place (lookup2.words key l.self.function.seed) (length l.self.function.cells)) (λ key. held_answer l.self key) l.self.function.keys l.places l.i l.answers
