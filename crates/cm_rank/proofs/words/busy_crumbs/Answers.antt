use Rattle.std.proofs.Common.{◌≡◌, ℕ, ◌+◌, ◌*◌, ◌/◌, ◌≤◌, List, arith, ap, length}
use Rattle.cm_rank.proofs.WordLemmas.{word_busy, word_there}
use Rattle.cm_rank.specs.Ranks.{rank_of}
use Rattle.cm_rank.proofs.words.busy_crumbs.Goals as goal

pub busy_at-count-requires-clause-there : goal.busy_at-count-requires-clause-there
busy_at-count-requires-clause-there g c =
    let cells = g.C.Lookup.cells c.args.cells.now in
    let inside : c.args.from + 32 * c.loop-k.k + 32 ≤ length cells = omega (arith, c.loop-k-test.true, c.requires.inside) in
    omega (arith, word_there (c.args.from + 32 * c.loop-k.k) (length cells) (length c.cell_bytes-bytes.result.now) c.cell_bytes-bytes.ensures.whole inside, c.requires.whole)

pub loop-k-preserved : goal.loop-k-preserved
loop-k-preserved g c =
    let cells = g.C.Lookup.cells c.args.cells.now in
    let bytes : List ℕ = c.cell_bytes-bytes.result.now in
    let at : ℕ = c.args.from + 32 * c.loop-k.k in
    let inside : at + 32 ≤ length cells = omega (arith, c.loop-k-test.true, c.requires.inside) in
    let place : at / 4 ≡ c.args.from / 4 + 8 * c.loop-k.k = omega (arith, c.requires.whole) in
    let busy = word_busy cells bytes at 32 c.busy_at-count.result c.cell_bytes-bytes.ensures.cells (omega (arith, c.requires.whole)) inside (rw place c.busy_at-count.ensures.busy) in
    let next : rank_of 3 cells (at + 32) ≡ rank_of 3 cells (c.args.from + 32 * (c.loop-k.k + 1)) = ap (rank_of 3 cells) (omega arith) in
    record {
      count = omega (arith, c.loop-k.invariant.count, busy, next);
      few = omega (arith, c.loop-k.invariant.few, c.busy_at-count.ensures.few);
    }
