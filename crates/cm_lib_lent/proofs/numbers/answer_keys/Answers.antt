use Rattle.std.proofs.Common.{rules, ◌≡◌, ◌∙◌, ◌+◌, ◌-◌, ◌<◌, ℕ, List, [], length, arith, ap}
use Rattle.std.specs.Prelude.{None, slice_index_or}
use Rattle.cm_keys_lent.specs.Ends.{key_in}
use Rattle.cm_lib_lent.specs.Numbers.{ArePlaces}
use Rattle.cm_lib_lent.proofs.NumberLemmas.{answers_read, places_are}
use Rattle.cm_lib_lent.proofs.numbers.answer_keys.Goals as goal

pub answer_all-requires-clause-places : goal.answer_all-requires-clause-places
answer_all-requires-clause-places g c = places_are (g.A.Answers.place_of c.args.function.now) c.args.keys.now c.args.from c.args.until c.as_slice.result.now (rw c.as_slice.ensures.value c.place_keys.ensures.places)

pub returns : goal.returns
returns g c = record { answered = answers_read (g.A.Answers.place_of c.args.function.now) (g.A.Answers.answer_of c.args.function.now) (g.A.Answers.span_of c.args.function.now) c.args.keys.now c.args.from c.args.until c.as_slice.result.now c.answer_all.new.answers _ (rw c.as_slice.ensures.value c.place_keys.ensures.places) c.answer_all.ensures.answers }
