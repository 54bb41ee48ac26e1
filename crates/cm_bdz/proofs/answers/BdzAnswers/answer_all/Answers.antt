use Rattle.std.proofs.Common.{rules}
use Rattle.cm_algo_scheme.specs.AnsweringLaws.{answers_more}
use Rattle.cm_bdz.proofs.ChoiceLemmas.{answer_of_key, places_of_keys}
use Rattle.cm_bdz.proofs.answers.BdzAnswers.answer_all.Goals as goal

pub chosen_by_all-requires-clause-places : goal.chosen_by_all-requires-clause-places
chosen_by_all-requires-clause-places c = places_of_keys _ c.args.self.now.cells c.args.self.now.seed c.args.places.now c.cells.ensures.cells c.requires.places

pub loop-i-preserved : goal.loop-i-preserved
loop-i-preserved c =
    let f = c.args.self.now in
    let places = c.args.places.now in
    let i = c.loop-i.i in
    answers_more _ _ _ places i c.loop-i.answers c.rank_of.result c.loop-i.invariant (search rules)
    (answer_of_key f _ places c.chosen_by_all.new.vertices i c.rank_of.result c.cells.ensures.cells c.chosen_by_all.ensures.chosen (search rules) c.rank_of.ensures.ranked)
    c.rank_of.ensures.below
