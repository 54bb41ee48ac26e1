use Rattle.std.proofs.Common.{arith, ◌≡◌, ◌+◌, ◌*◌, min, length}
use Rattle.cm_lib_lent.proofs.NumberLemmas.{put_more}
use Rattle.cm_lib_lent.proofs.numbers.answers_into.Goals as goal

-- a batch more
pub loop-g-preserved : goal.loop-g-preserved
loop-g-preserved g c =
    let keys = c.args.keys.now in
    let count = length keys.ends in
    let from : 32 * c.loop-g.g ≡ min count (32 * c.loop-g.g) = omega (arith, c.count-count.ensures.count, c.loop-g-test.true, c.div_ceil-g-end.ensures) in
    let until : c.min.result ≡ min count (32 * (c.loop-g.g + 1)) = omega (arith, c.min.ensures, c.count-count.ensures.count) in
    put_more (g.A.Answers.answer_of c.args.function.now) keys 0 (min count (32 * c.loop-g.g)) (min count (32 * (c.loop-g.g + 1))) _ _ _ (omega arith) (omega arith) c.loop-g.invariant (rw (← from, ← until) c.put_numbers.ensures.put)
