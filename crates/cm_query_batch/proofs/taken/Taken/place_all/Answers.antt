use Rattle.std.proofs.Common.{rules, ◌≡◌, ◌∙◌, ◌+◌, ◌*◌, ◌<◌, ◌++◌, ℕ, List, [], length, arith}
use Rattle.cm_query_batch.proofs.BatchLemmas.{four_more, one_more}
use Rattle.cm_query_batch.proofs.taken.Taken.place_all.Goals as goal

pub loop-i-preserved : goal.loop-i-preserved
loop-i-preserved g c =
    let f = λ (k : ℕ × List ℕ). g.A.Answers.place_of c.args.function.now k.1 in
    let keys = c.args.self.now.keys in
    let none : ℕ × List ℕ = (0, []) in
    let first = 4 * c.loop-i.i in
    let grown : c.try_extend_from_slice.new.self.items ≡ c.loop-i.places.items ++ c.places_of_four-four.result = search rules in
    grown ∙ rw (c.loop-i.invariant, c.places_of_four-four.ensures.places, c.key.ensures.key none, c.key-in-loop-i.ensures.key none, c.key-in-loop-i-2.ensures.key none, c.key-in-loop-i-3.ensures.key none)
    (four_more f keys first (4 * (c.loop-i.i + 1)) none (omega arith) (omega (arith, c.loop-i-test.true, c.len-fours.ensures.len)))

pub loop-i-2-preserved : goal.loop-i-2-preserved
loop-i-2-preserved g c =
    let f = λ (k : ℕ × List ℕ). g.A.Answers.place_of c.args.function.now k.1 in
    let keys = c.args.self.now.keys in
    let none : ℕ × List ℕ = (0, []) in
    let inside : c.loop-i-2.i < length keys = omega (arith, c.loop-i-2-test.true, c.len-i-end.ensures.len) in
    c.push.ensures.items ∙ rw (c.loop-i-2.invariant, c.place.ensures.place, c.key-in-loop-i-2-2.ensures.key none) (one_more f keys c.loop-i-2.i none inside)
