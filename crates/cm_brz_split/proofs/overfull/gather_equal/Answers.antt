use Rattle.std.proofs.Common.{arith, rules, ◌∙◌, ℕ, ◌+◌, ap, sym}
use Rattle.cm_brz_split.proofs.Equal.{GaveNoted, byte_is, byte_most, gave_equal, gave_one_noted, noted_more, pairs_noted, size_noted}
use Rattle.cm_brz_split.proofs.Rising.{all_rise, one_rises}
use Rattle.cm_brz_split.proofs.overfull.gather_equal.Goals as goal

pub returns-in-None-clause-fault : goal.returns-in-None-clause-fault
returns-in-None-clause-fault g c = λ told is.
    let gone = rw c.in-None.is at c.in_ok-here.ensures.ends in
    let ends = gone told (c.loop-count.invariant.same ∙ is) in
    omega (arith, ends.all, (c.requires.counted told is).many, c.loop-count.invariant.at, c.loop-count-test.true)

pub loop-count-preserved : goal.loop-count-preserved
loop-count-preserved g c =
    let before = c.loop-count.invariant in
    let notes = rw c.in-Some.is at c.in_ok-here.ensures.notes in
    let counts = rw c.in-Some.is at c.in_ok-here.ensures.counts in
    let more = ap (λ (n : ℕ). c.loop-count.found + n) (byte_is c.in-Some.here) in
    record {
      ready = search rules;
      same = search rules;
      quiet = search rules;
      at = omega (arith, counts, before.at);
      few = omega (arith, byte_most c.in-Some.here, before.few);
      gave = gave_one_noted (g.P.KeyPass.gave c.loop-count.keys) (g.P.KeyPass.gave c.note_next.new.keys) c.loop-count.found _ _ _ _ _ _ _ _ c.in-Some.here before.gave (λ earlier given. rw c.in-Some.is at (c.in_ok-here.ensures.gave earlier given)) more;
      rising = λ told is.
          let gives = (rw c.in-Some.is at c.in_ok-here.ensures.gives) told (before.same ∙ is) in
          one_rises _ _ _ _ told.keys _ gives.0 (before.rising told is) (rw c.in-Some.is at c.in_ok-here.ensures.rises) counts gives.1;
      noted = λ told is. noted_more c.loop-count.found _ _ _ _ _ told.keys _ _ _ _ _ c.in-Some.here (before.noted told is) (notes told (before.same ∙ is)) more;
    }

pub returns-then-found-over-clause-fault : goal.returns-then-found-over-clause-fault
returns-then-found-over-clause-fault g c = λ told is.
    let before = c.loop-count.invariant in
    c.if-found-over.true (size_noted c.loop-count.found _ _ told.keys _ _ _ _ (before.noted told is) (c.in_ok-expect_end.ensures.end told (before.same ∙ is)).none_left ∙ sym (c.requires.over told is))

pub returns-clause-equal : goal.returns-clause-equal
returns-clause-equal g c = λ told is.
    let before = c.loop-count.invariant in
    pairs_noted c.loop-count.found _ _ told.keys _ _ _ _ _ (before.noted told is) (c.in_ok-expect_end.ensures.end told (before.same ∙ is)).none_left c.into_pairs.ensures

pub returns-clause-gave : goal.returns-clause-gave
returns-clause-gave g c =
    let before = c.loop-count.invariant.gave in
    let now : GaveNoted (g.P.KeyPass.gave c.expect_end.new.keys) c.loop-count.found c.loop-count.equal.firsts c.loop-count.equal.pairs.items c.args.split.now.buckets c.args.split.now.seed c.args.over.bucket = record { keys = before.keys; given = c.in_ok-expect_end.ensures.gave before.keys before.given; are = before.are } in
    gave_equal (g.P.KeyPass.gave c.expect_end.new.keys) c.loop-count.found c.args.over.count _ _ _ _ _ _ now c.if-found-over.false c.into_pairs.ensures

pub returns-clause-rising : goal.returns-clause-rising
returns-clause-rising g c = λ told is.
    let before = c.loop-count.invariant in
    all_rise _ _ told.keys (before.rising told is) (c.in_ok-expect_end.ensures.end told (before.same ∙ is)).all
