use Rattle.std.proofs.Common.{◌≡◌, ℕ, ◌-◌, ◌*◌, arith, min}
use Rattle.cm_rank.proofs.WordLemmas.{words_more}
use Rattle.cm_rank.proofs.words.busy_in_words.Goals as goal

pub loop-k-preserved : goal.loop-k-preserved
loop-k-preserved g c =
    let cells = g.C.Lookup.cells c.args.cells.now in
    let left : ℕ = c.args.until - c.args.from in
    let many : c.min-many.result ≡ min (left - 32 * c.loop-k.k) 32 = omega (arith, c.min-many.ensures, c.saturating_sub.ensures) in
    record {
      count = words_more cells c.cell_bytes-bytes.result.now c.args.from left c.loop-k.k c.min-many.result c.loop-k.count c.busy_at-count.result
          c.cell_bytes-bytes.ensures.cells c.requires.whole (omega (arith, c.requires.order, c.requires.inside)) many
          c.busy_at-count.ensures.busy c.busy_at-count.ensures.few c.loop-k.invariant.count;
      few = omega (arith, c.loop-k.invariant.few, c.min-many.ensures, c.busy_at-count.ensures.few);
    }
