use Rattle.std.proofs.Common.{◌∙◌, ◌<◌, ℕ, List, ap, arith, drop, length, refl, rules, subst, sum, sym}
use Rattle.cm_brz_split.proofs.GivenLemmas.{gave_more, gave_next}
use Rattle.cm_brz_split.specs.Given.{GaveSizes}
use Rattle.cm_brz_split.specs.SizesLaws.{AreCountedBut, all_counted, count_more, count_passed, sum_one_more}
use Rattle.cm_brz_split.proofs.split.count_buckets.Goals as goal

pub more-preserved-then-count_four : goal.more-preserved-then-count_four
more-preserved-then-count_four g c =
    let before = c.more.invariant in
    let four = c.count_four.ensures in
    let yes' = c.if-count_four.true in
    record {
      ready = four.usable;
      same = four.told ∙ before.same;
      quiet = four.cause ∙ before.quiet;
      few = omega (arith, four.enough yes', before.few);
      at = omega (arith, four.counts yes', before.at);
      all = omega (arith, four.all yes', before.all);
      long = omega (arith, c.count_four.auto.sizes, before.long);
      sizes = λ told is. count_passed _ _ _ _ _ _ _ (before.sizes told is) (four.each yes' told (before.same ∙ is));
      gave = gave_more (g.P.KeyPass.gave c.more.keys) (g.P.KeyPass.gave c.count_four.new.keys) c.more.sizes c.count_four.new.sizes c.args.split.now.buckets c.args.split.now.seed before.gave (four.gave yes');
    }

pub more-preserved : goal.more-preserved
more-preserved g c =
    let P = g.P.KeyPass in
    let before = c.more.invariant in
    let sizes = c.count_four.new.sizes in
    let k : ℕ = c.args.split.now.buckets in
    let s : ℕ = c.args.split.now.seed in
    let still = c.count_four.ensures.unchanged c.if-count_four.false in
    let place = ap P.place still.0 in
    let same = c.count_four.ensures.told ∙ before.same in
    let counts = rw c.in-Ok-Some.field-0-is at c.in-Ok-Some.ensures.counts in
    let below = rw c.in-Ok-Some.field-0-is at c.in-Ok-Some.ensures.below in
    let gives = rw c.in-Ok-Some.field-0-is at c.in-Ok-Some.ensures.gives in
    let low : c.in-Ok-Some.bucket < length sizes = omega (arith, below, c.count_four.auto.sizes, before.long) in
    record {
      ready = c.in-Ok-Some.ensures.usable;
      same = c.next_bucket.ensures.told ∙ same;
      quiet = c.in-Ok-Some.ensures.cause ∙ (c.count_four.ensures.cause ∙ before.quiet);
      few = omega (arith, c.more-test.true);
      at = omega (arith, counts, place, before.at);
      all = omega (arith, sum_one_more sizes c.in-Ok-Some.bucket _ low refl, ap sum still.1, before.all);
      long = search rules;
      sizes = λ told is.
          (let given = gives told (same ∙ is) in
          let counted = subst (λ (l : List ℕ). AreCountedBut l (drop (P.place c.count_four.new.keys) told.keys) told.keys k s) (sym still.1) (subst (λ (n : ℕ). AreCountedBut c.more.sizes (drop n told.keys) told.keys k s) (sym place) (before.sizes told is)) in
          count_more sizes given.0 _ _ told.keys k s c.in-Ok-Some.bucket _ counted given.1 given.2 low refl);
      gave =
          (let still_gave : GaveSizes (P.gave c.count_four.new.keys) sizes k s = rw (still.1, still.0) before.gave in
          gave_next (P.gave c.count_four.new.keys) (P.gave c.next_bucket.new.keys) sizes k s c.in-Ok-Some.bucket _ still_gave (λ earlier given. rw c.in-Ok-Some.field-0-is at (c.in-Ok-Some.ensures.gave earlier given)) low refl);
    }

pub returns-clause-sizes : goal.returns-clause-sizes
returns-clause-sizes g c = λ told is.
    let before = c.more.invariant in
    all_counted c.more.sizes _ told.keys _ _ (before.sizes told is) (c.in_ok-expect_end.ensures.end told (before.same ∙ is)).none_left

pub returns-clause-gave : goal.returns-clause-gave
returns-clause-gave g c =
    let gave = c.more.invariant.gave in
    record { keys = gave.keys; given = c.in_ok-expect_end.ensures.gave gave.keys gave.given; sizes_are = gave.sizes_are }
