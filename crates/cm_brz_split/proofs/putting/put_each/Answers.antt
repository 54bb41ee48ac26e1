use Rattle.std.proofs.Common.{arith, rules, ◌∙◌, ◌<◌, length, refl}
use Rattle.cm_brz_split.proofs.GivenLemmas.{gave_next}
use Rattle.cm_brz_split.proofs.PutLemmas.{put_more}
use Rattle.cm_brz_split.specs.SizesLaws.{all_counted, count_more, counted_less, sum_one_more}
use Rattle.cm_brz_split.proofs.putting.put_each.Goals as goal

pub returns-in-None-clause-fault : goal.returns-in-None-clause-fault
returns-in-None-clause-fault g c = λ told is.
    let gone = rw c.in-None.is at c.in_ok-bucket.ensures.ends in
    let ends = gone told (c.loop-count.invariant.same ∙ is) in
    omega (arith, ends.all, (c.requires.counted told is).many, c.loop-count.invariant.at, c.loop-count-test.true)

pub loop-count-preserved : goal.loop-count-preserved
loop-count-preserved g c =
    let P = g.P.KeyPass in
    let B = g.B.Store in
    let before = c.loop-count.invariant in
    let counts = rw c.in-Some.is at c.in_ok-bucket.ensures.counts in
    let below = rw c.in-Some.is at c.in_ok-bucket.ensures.below in
    let gives = rw c.in-Some.is at c.in_ok-bucket.ensures.gives in
    let low : c.in-Some.bucket < length c.loop-count.put = omega (arith, below, before.long) in
    record {
      ready = c.in_ok-bucket.ensures.usable;
      same = c.put_next.ensures.told ∙ before.same;
      quiet = c.in_ok-bucket.ensures.cause.0 ∙ before.quiet;
      at = omega (arith, counts, before.at);
      usable = c.in_ok-bucket.ensures.store;
      open_still = c.in_ok-bucket.ensures.open;
      last = c.in_ok-bucket.ensures.last;
      known_still = c.put_next.ensures.known ∙ before.known_still;
      still = c.in_ok-bucket.ensures.cause.1 ∙ before.still;
      long = search rules;
      all = omega (arith, sum_one_more c.loop-count.put c.in-Some.bucket _ low refl, before.all);
      counts = λ told is.
          (let given = gives told (before.same ∙ is) in
          count_more c.loop-count.put given.0 _ _ told.keys c.args.split.now.buckets c.args.split.now.seed c.in-Some.bucket _ (before.counts told is) given.1 given.2 low refl);
      gave = gave_next (P.gave c.loop-count.keys) (P.gave c.put_next.new.keys) c.loop-count.put c.args.split.now.buckets c.args.split.now.seed c.in-Some.bucket _ before.gave (λ earlier given. rw c.in-Some.is at (c.in_ok-bucket.ensures.gave earlier given)) low refl;
      records = λ none.
          put_more (B.holds c.loop-count.store) (B.holds c.put_next.new.store) (P.told c.args.keys.now) (P.told c.loop-count.keys) (P.place c.loop-count.keys) (P.place c.put_next.new.keys) c.loop-count.put c.args.split.now.buckets c.args.split.now.seed c.in-Some.bucket _ before.same (before.records none)
          (λ records held. rw c.in-Some.is at (c.in_ok-bucket.ensures.puts records held)) low refl;
    }

pub returns-then-put-j-ge-MAX_BUCKET-clause-fault : goal.returns-then-put-j-ge-MAX_BUCKET-clause-fault
returns-then-put-j-ge-MAX_BUCKET-clause-fault g c = λ told is.
    let before = c.loop-count.invariant in
    let below = rw c.in-Some.is at c.in_ok-bucket.ensures.below in
    let gives = rw c.in-Some.is at c.in_ok-bucket.ensures.gives in
    let given = gives told (before.same ∙ is) in
    let less = counted_less c.loop-count.put given.0 _ _ told.keys c.args.split.now.buckets c.args.split.now.seed c.in-Some.bucket (before.counts told is) given.1 given.2 below in
    omega (arith, c.requires.small c.in-Some.bucket (omega (arith, below, c.requires.long.0)), c.requires.sizes told is c.in-Some.bucket below, less, c.if-put-j-ge-MAX_BUCKET.true)

pub returns-clause-sizes : goal.returns-clause-sizes
returns-clause-sizes g c = λ told is.
    let before = c.loop-count.invariant in
    all_counted c.loop-count.put _ told.keys _ _ (before.counts told is) (c.in_ok-expect_end.ensures.end told (before.same ∙ is)).none_left

pub returns-clause-gave : goal.returns-clause-gave
returns-clause-gave g c =
    let gave = c.loop-count.invariant.gave in
    record { keys = gave.keys; given = c.in_ok-expect_end.ensures.gave gave.keys gave.given; sizes_are = gave.sizes_are }
