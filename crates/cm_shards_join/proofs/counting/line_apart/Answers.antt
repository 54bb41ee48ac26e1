use Rattle.std.proofs.Common.{◌≡◌, ◌≢◌, ◌∙◌, ℕ, ◌+◌, ◌<◌, length, drop, get_or, ap, sym, arith}
use Rattle.cm_shards_join.specs.Counts.{differs_from}
use Rattle.cm_shards_join.proofs.CountLemmas.{differs_here, differs_long, differs_never, differs_same, differs_short}
use Rattle.cm_shards_join.proofs.counting.line_apart.Goals as goal

pub returns-then-i-other : goal.returns-then-i-other
returns-then-i-other c =
    let text = c.args.text.now in
    let other = c.args.other.now in
    record { line = sym (c.loop-i.invariant.left ∙ differs_short c.loop-i.line text other c.loop-i.i (omega (arith, c.loop-i-test.true, c.loop-i.invariant.end)) (omega (arith, c.if-i-other.true))) }

pub returns-then-text-i : goal.returns-then-text-i
returns-then-text-i c =
    let text = c.args.text.now in
    let other = c.args.other.now in
    let i : ℕ = c.loop-i.i in
    let inside : i < length text = omega (arith, c.loop-i-test.true, c.loop-i.invariant.end) in
    let within : i < length other = omega (arith, c.if-i-other.false, c.loop-i.invariant.inside) in
    let apart : get_or text i 0 ≢ get_or other i 0 = c.if-text-i.true in
    record { line = sym (c.loop-i.invariant.left ∙ differs_here c.loop-i.line text other i inside within apart) }

pub loop-i-preserved : goal.loop-i-preserved
loop-i-preserved c =
    let text = c.args.text.now in
    let other = c.args.other.now in
    let i : ℕ = c.loop-i.i in
    let inside : i < length text = omega (arith, c.loop-i-test.true, c.loop-i.invariant.end) in
    let within : i < length other = omega (arith, c.if-i-other.false, c.loop-i.invariant.inside) in
    let same : get_or text i 0 ≡ get_or other i 0 = c.if-text-i.false in
    record {
      end = c.loop-i.invariant.end;
      inside = omega (arith, within);
      few = omega (arith, c.next_line-line.ensures.few, c.loop-i.invariant.few);
      left = c.loop-i.invariant.left ∙ differs_same c.loop-i.line text other i inside within same ∙ ap (λ (n : ℕ). differs_from n (drop (i + 1) text) (drop (i + 1) other)) (sym c.next_line-line.ensures.line);
    }

pub returns-then-text-other : goal.returns-then-text-other
returns-then-text-other c =
    let text = c.args.text.now in
    let other = c.args.other.now in
    record { line = sym (c.loop-i.invariant.left ∙ differs_long c.loop-i.line text other c.loop-i.i (omega (arith, c.loop-i-test.false, c.loop-i.invariant.end)) (omega (arith, c.if-text-other.true, c.loop-i-test.false, c.loop-i.invariant.end, c.loop-i.invariant.inside, c.loop-i.auto.i-end))) }

pub returns-else-text-other : goal.returns-else-text-other
returns-else-text-other c =
    let text = c.args.text.now in
    let other = c.args.other.now in
    record { line = sym (c.loop-i.invariant.left ∙ differs_never c.loop-i.line text other c.loop-i.i (omega (arith, c.loop-i-test.false, c.loop-i.invariant.end)) (omega (arith, c.if-text-other.false, c.loop-i-test.false, c.loop-i.invariant.end))) }
