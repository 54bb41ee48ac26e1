use Rattle.std.proofs.Common.{subst}
use Rattle.cm_algo_scheme.specs.Answering.{ArePlaces}
use Rattle.cm_dump_lent.specs.Opened.{lent_place}
use Rattle.cm_dump_lent.proofs.answers.LentAnswers.answer_all.Goals as goal

pub answer_all-requires-clause-places : goal.answer_all-requires-clause-places
answer_all-requires-clause-places c = subst (λ f. ArePlaces (lent_place f) c.args.places.now) c.in-Chm.is c.requires.places

pub answer_all-requires-in-Bdz-clause-places : goal.answer_all-requires-in-Bdz-clause-places
answer_all-requires-in-Bdz-clause-places c = subst (λ f. ArePlaces (lent_place f) c.args.places.now) c.in-Bdz.is c.requires.places

pub answer_all-requires-in-BdzPh-clause-places : goal.answer_all-requires-in-BdzPh-clause-places
answer_all-requires-in-BdzPh-clause-places c = subst (λ f. ArePlaces (lent_place f) c.args.places.now) c.in-BdzPh.is c.requires.places

pub answer_all-requires-in-Brz-clause-places : goal.answer_all-requires-in-Brz-clause-places
answer_all-requires-in-Brz-clause-places c = subst (λ f. ArePlaces (lent_place f) c.args.places.now) c.in-Brz.is c.requires.places
