use Rattle.std.proofs.Common.{◌≡◌, ◌∙◌, ℕ, List, ap, arith, length}
use Rattle.cm_bits.specs.Held.{packed_cells}
use Rattle.cm_bits.specs.PackedLaws.{length-packed_cells}
use Rattle.cm_dump_brz.specs.CountLaws.{count_is}
use Rattle.cm_dump_brz.proofs.OpenLemmas.{crumbs_counted, crumbs_miscounted, item_of_image}
use Rattle.cm_dump_brz.proofs.opening.counted_image.Goals as goal

pub count_busy-requires-clause-inside : goal.count_busy-requires-clause-inside
count_busy-requires-clause-inside c =
    let long = ap length c.new.ensures.cells ∙ length-packed_cells 4 4 c.args.n c.in-Ok.image.now in
    omega (arith, long)

pub returns-then-count_busy-size-clause-item : goal.returns-then-count_busy-size-clause-item
returns-then-count_busy-size-clause-item c = item_of_image c.args.dump.now c.args.at c.args.n c.in-Ok.image.now c.in-Ok.ensures.exact

pub returns-then-count_busy-size-clause-busy : goal.returns-then-count_busy-size-clause-busy
returns-then-count_busy-size-clause-busy c =
    let cells : List ℕ = packed_cells 4 4 c.args.n c.in-Ok.image.now in
    let counted = count_is _ cells c.args.n c.count_busy.result c.new.ensures.cells (length-packed_cells 4 4 c.args.n c.in-Ok.image.now) c.count_busy.ensures.busy in
    omega (arith, counted, c.if-count_busy-size.true)

pub returns-then-count_busy-size-clause-exact : goal.returns-then-count_busy-size-clause-exact
returns-then-count_busy-size-clause-exact c =
    let cells : List ℕ = packed_cells 4 4 c.args.n c.in-Ok.image.now in
    let counted = count_is _ cells c.args.n c.count_busy.result c.new.ensures.cells (length-packed_cells 4 4 c.args.n c.in-Ok.image.now) c.count_busy.ensures.busy in
    crumbs_counted c.args.dump.now c.args.at c.args.size c.args.n c.in-Ok.image.now c.in-Ok.ensures.exact (omega (arith, counted, c.if-count_busy-size.true))

pub returns-else-count_busy-size-clause-exact : goal.returns-else-count_busy-size-clause-exact
returns-else-count_busy-size-clause-exact c =
    let cells : List ℕ = packed_cells 4 4 c.args.n c.in-Ok.image.now in
    let counted = count_is _ cells c.args.n c.count_busy.result c.new.ensures.cells (length-packed_cells 4 4 c.args.n c.in-Ok.image.now) c.count_busy.ensures.busy in
    crumbs_miscounted c.args.dump.now c.args.at c.args.size c.args.n c.in-Ok.image.now c.in-Ok.ensures.exact (λ same. c.if-count_busy-size.false (counted ∙ same))
