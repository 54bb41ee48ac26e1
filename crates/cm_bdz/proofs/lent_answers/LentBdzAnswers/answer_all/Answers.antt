use Rattle.std.proofs.Common.{rules, ◌∙◌, ap}
use Rattle.cm_algo_scheme.specs.AnsweringLaws.{answers_more}
use Rattle.cm_bdz.specs.Lent.{held_rank}
use Rattle.cm_bdz.proofs.ChoiceLemmas.{places_of_keys, vertex_of_key}
use Rattle.cm_bdz.proofs.lent_answers.LentBdzAnswers.answer_all.Goals as goal

pub chosen_by_all-requires-clause-places : goal.chosen_by_all-requires-clause-places
chosen_by_all-requires-clause-places c = places_of_keys _ c.args.self.now.function.cells c.args.self.now.function.seed c.args.places.now c.cells.ensures.cells c.requires.places

pub loop-i-preserved : goal.loop-i-preserved
loop-i-preserved c =
    let f = c.args.self.now in
    let places = c.args.places.now in
    let i = c.loop-i.i in
    answers_more _ _ _ places i c.loop-i.answers c.rank_of.result c.loop-i.invariant (search rules)
    (λ key at. c.rank_of.ensures.rank ∙ ap (held_rank f) (vertex_of_key _ f.function.cells f.function.seed places c.chosen_by_all.new.vertices i key c.cells.ensures.cells c.chosen_by_all.ensures.chosen (search rules) at))
    c.rank_of.ensures.below
