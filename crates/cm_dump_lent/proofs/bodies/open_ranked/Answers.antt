use Rattle.std.proofs.Common.{◌≡◌, ◌∙◌, ◌*◌, ◌^◌, ℕ, List, ap, arith, length, count_by}
use Rattle.std.specs.Int.{div_ceil}
use Rattle.cm_bits.specs.Held.{packed_cells}
use Rattle.cm_bits.specs.PackedLaws.{length-packed_cells}
use Rattle.cm_dump.specs.CellLaws.{few_vertices}
use Rattle.cm_dump_items.specs.StepLaws.{fails_then}
use Rattle.cm_spec.specs.Cells.{is_busy}
use Rattle.cm_dump_brz.specs.CountLaws.{count_is}
use Rattle.cm_dump_lent.proofs.BodyLemmas.{ranked_counted, ranked_uncounted}
use Rattle.cm_dump_lent.proofs.bodies.open_ranked.Goals as goal

pub open_ranks-requires-clause-n : goal.open_ranks-requires-clause-n
open_ranks-requires-clause-n c =
    let h = c.args.header in
    let long = ap length c.new-cells.ensures.cells ∙ length-packed_cells 4 4 c.args.n c.args.image.now in
    omega (arith, long, c.requires.n, few_vertices h.keys h.ratio c.requires.keys.0 c.requires.keys.1 c.requires.ratio)

pub close_ranked-requires-clause-long : goal.close_ranked-requires-clause-long
close_ranked-requires-clause-long c =
    let long = ap length c.new-cells.ensures.cells ∙ length-packed_cells 4 4 c.args.n c.args.image.now in
    c.in-Ok.ensures.len ∙ ap (λ (k : ℕ). 4 * div_ceil k (2 ^ c.args.header.b)) long

pub count_busy-requires-clause-inside : goal.count_busy-requires-clause-inside
count_busy-requires-clause-inside c =
    let long = ap length c.new-cells.ensures.cells ∙ length-packed_cells 4 4 c.args.n c.args.image.now in
    omega (arith, long)

-- the ranks are those of the cells that are there, and there is another number of these
pub returns-then-count_busy-header-clause-exact : goal.returns-then-count_busy-header-clause-exact
returns-then-count_busy-header-clause-exact c =
    let h = c.args.header in
    let n : ℕ = c.args.n in
    let cells : List ℕ = packed_cells 4 4 n c.args.image.now in
    let long : length cells ≡ n = length-packed_cells 4 4 n c.args.image.now in
    let counted = count_is _ cells n c.count_busy.result c.new-cells.ensures.cells long c.count_busy.ensures.busy in
    ranked_uncounted c.args.dump.now h cells (λ is. c.if-count_busy-header.true (counted ∙ is))

-- there are as many as there are keys, and a rank is wrong
pub returns-else-count_busy-header-clause-exact : goal.returns-else-count_busy-header-clause-exact
returns-else-count_busy-header-clause-exact c =
    let h = c.args.header in
    let n : ℕ = c.args.n in
    let cells : List ℕ = packed_cells 4 4 n c.args.image.now in
    let long : length cells ≡ n = length-packed_cells 4 4 n c.args.image.now in
    let counted = count_is _ cells n c.count_busy.result c.new-cells.ensures.cells long c.count_busy.ensures.busy in
    let busy : count_by (is_busy 3) cells ≡ h.keys = omega (arith, counted, c.if-count_busy-header.false) in
    let failed = rw (c.image_len-at.ensures, c.new-cells.ensures.cells) at c.in-Err.ensures.exact in
    rw (ranked_counted c.args.dump.now h cells n long busy) (fails_then c.in-Err.fault _ _ failed)
