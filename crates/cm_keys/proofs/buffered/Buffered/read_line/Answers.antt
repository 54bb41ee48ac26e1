use Rattle.std.proofs.Common.{length, ap, arith, length-append, ◌∙◌}
use Rattle.cm_keys.specs.Buffering.{ready_in}
use Rattle.cm_keys.proofs.PieceLemmas.{read_whole, read_more, read_long, read_last}
use Rattle.cm_keys.proofs.buffered.Buffered.read_line.Goals as goal

pub returns-then-not-branch-clause-line : goal.returns-then-not-branch-clause-line
returns-then-not-branch-clause-line g c =
    let none = c.in_ok-has_more.ensures.none c.if-not-branch.true in
    (read_last _ _ _ _ _ _ _ (grind (arith, c.is_empty.ensures, c.if-is_empty.false)) c.loop.invariant.left c.in_ok-has_more.ensures.left none.0 none.1, c.loop.invariant.few)

pub returns-in-Whole-clause-line : goal.returns-in-Whole-clause-line
returns-in-Whole-clause-line g c =
    let t = c.in-Whole.ensures.takes in
    (read_whole _ _ _ _ _ _ _ _ _ _ _ _ c.loop.invariant.left c.in_ok-has_more.ensures.left (ap g.S.Source.told c.in-Whole.ensures.source) (ap g.S.Source.place c.in-Whole.ensures.source) t, t.4)

pub returns-in-Long-clause-line : goal.returns-in-Long-clause-line
returns-in-Long-clause-line g c =
    read_long _ _ _ c.take_part.new.key.items _ _ _ _ _ (ready_in c.take_part.new.self.buf c.take_part.new.self.start c.take_part.new.self.until) c.loop.invariant.left c.in_ok-has_more.ensures.left c.in-Long.ensures.takes

pub loop-preserved : goal.loop-preserved
loop-preserved g c =
    let t = c.in-More.ensures.takes in
    record {
      same = ap g.S.Source.told c.in-More.ensures.source ∙ c.in_ok-has_more.ensures.told ∙ c.loop.invariant.same;
      quiet = ap g.S.Source.faults c.in-More.ensures.source ∙ c.in_ok-has_more.ensures.cause.fine ∙ c.loop.invariant.quiet;
      grows = omega (arith, c.loop.invariant.grows, ap length t.1, t.3, length-append c.loop.key.items (ready_in c.has_more.new.self.buf c.has_more.new.self.start c.has_more.new.self.until));
      few = t.4;
      fresh = λ ended. cc (c.has_more.ensures.stays (c.loop.invariant.fresh ended).0, c.in_ok-has_more.was, c.if-not-branch.false);
      left = read_more _ _ _ _ _ _ _ _ _ _ _ _ c.loop.invariant.left c.in_ok-has_more.ensures.left (ap g.S.Source.told c.in-More.ensures.source) (ap g.S.Source.place c.in-More.ensures.source) t;
    }

pub unreachable-requires : goal.unreachable-requires
unreachable-requires g c = omega (arith, c.loop.invariant.few, c.loop.invariant.grows, c.loop-test.false)
