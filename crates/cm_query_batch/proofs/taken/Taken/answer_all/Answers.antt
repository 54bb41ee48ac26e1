use Rattle.std.proofs.Common.{rules, ◌≡◌, ◌∙◌, length, ap}
use Rattle.cm_query_batch.proofs.AnswerLemmas.{all_written, answers_inside, answers_of, places_of}
use Rattle.cm_query_batch.proofs.taken.Taken.answer_all.Goals as goal

pub answer_all-requires-clause-places : goal.answer_all-requires-clause-places
answer_all-requires-clause-places g c = places_of (g.A.Answers.place_of c.args.function.now) c.args.self.now.keys c.as_slice.result.now (c.as_slice.ensures.value ∙ c.place_all.ensures.are)

pub returns-clause-are : goal.returns-clause-are
returns-clause-are g c =
    let A = g.A.Answers in
    let f = c.args.function.now in
    let many : length c.answer_all.new.answers ≡ length c.make_room.new.answers.items = c.answer_all.ensures.answers.many ∙ ap length c.as_slice.ensures.value ∙ (search rules) in
    all_written c.make_room.new.answers.items c.answer_all.new.answers many
    ∙ answers_of (A.place_of f) (A.answer_of f) (A.span_of f) c.args.self.now.keys c.as_slice.result.now c.answer_all.new.answers (c.as_slice.ensures.value ∙ c.place_all.ensures.are) c.answer_all.ensures.answers

pub returns-clause-inside : goal.returns-clause-inside
returns-clause-inside g c =
    let A = g.A.Answers in
    let f = c.args.function.now in
    let many : length c.answer_all.new.answers ≡ length c.make_room.new.answers.items = c.answer_all.ensures.answers.many ∙ ap length c.as_slice.ensures.value ∙ (search rules) in
    rw (all_written c.make_room.new.answers.items c.answer_all.new.answers many) (answers_inside (A.place_of f) (A.answer_of f) (A.span_of f) c.as_slice.result.now c.answer_all.new.answers c.answer_all.ensures.answers)
