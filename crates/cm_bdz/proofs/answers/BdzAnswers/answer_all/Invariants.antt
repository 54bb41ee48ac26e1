use Rattle.std.specs.Prelude.{length}
use Rattle.cm_algo_scheme.specs.Answering.{AnswersFirst}
use Rattle.cm_bdz.specs.Functions.{bdz_answer}
use Rattle.cm_bdz.specs.Places.{bdz_place}
use Rattle.cm_spec.specs.Lookup2 as lookup2
use Rattle.cm_bdz.proofs.answers.BdzAnswers.answer_all.Given as goal

-- the places before have their answers
abbrev pub invariant-loop-i : goal.invariant-loop-i
invariant-loop-i l = AnswersFirst (λ key. bdz_place (lookup2.words key l.self.seed) (length l.self.cells)) (λ key. bdz_answer l.self key) l.self.keys l.places l.i l.answers
