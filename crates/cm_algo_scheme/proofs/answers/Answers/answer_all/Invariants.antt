use Rattle.cm_algo_scheme.specs.Answering.{AnswersFirst}
use Rattle.cm_algo_scheme.proofs.answers.Answers.answer_all.Given as goal

-- the places before have their answers
abbrev pub invariant-loop-i : goal.invariant-loop-i
invariant-loop-i g l = AnswersFirst (g.Self.Answers.place_of l.self) (g.Self.Answers.answer_of l.self) (g.Self.Answers.span_of l.self) l.places l.i l.answers
