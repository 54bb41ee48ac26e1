use Rattle.std.proofs.Common.{◌∙◌, arith}
use Rattle.cm_shards_query.proofs.taking.gather.Goals as goal

pub returns-then-not-take_next-clause-takes : goal.returns-then-not-take_next-clause-takes
returns-then-not-take_next-clause-takes g c = λ before taken.
    let same = c.take_next.ensures.unchanged c.if-not-take_next.true in
    rw (same.0, same.1) (c.more.invariant.takes before taken)

pub more-preserved : goal.more-preserved
more-preserved g c =
    let inv = c.more.invariant in
    let took = c.take_next.ensures in
    let more = c.if-not-take_next.false in
    record {
      ready = took.usable;
      same = took.told ∙ inv.same;
      quiet = took.cause ∙ inv.quiet;
      some = omega (arith, inv.some, took.longer more);
      takes = λ before taken. took.takes more before (inv.takes before taken);
    }
