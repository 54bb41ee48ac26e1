use Rattle.std.proofs.Common.{◌+◌, arith, length-take, take}
use Rattle.std.proofs.lemmas.List.Sums.{count_by-le-length}
use Rattle.cm_bits.specs.Held.{packed_cells}
use Rattle.cm_bits.specs.PackedLaws.{length-packed_cells}
use Rattle.cm_brz_func.proofs.TableLemmas.{rank_in}
use Rattle.cm_brz_func.specs.Kept.{cells_in}
use Rattle.cm_spec.specs.Cells.{is_busy}
use Rattle.cm_brz_func.proofs.held.Held.rank.Goals as goal

pub overflow_add-self : goal.overflow_add-self
overflow_add-self c =
    let t = c.args.table.now in
    omega (arith, c.requires.lies.within, c.requires.inside, length-packed_cells 4 4 t.n t.bytes.items, t.in_room)

pub overflow_add-from : goal.overflow_add-from
overflow_add-from c =
    let t = c.args.table.now in
    omega (arith, c.requires.lies.within, c.requires.inside, c.if-v-le-NEAR.false, length-packed_cells 4 4 t.n t.bytes.items, t.in_room)

pub overflow_add-self-2 : goal.overflow_add-self-2
overflow_add-self-2 c =
    let t = c.args.table.now in
    omega (arith, c.requires.lies.within, c.requires.inside, length-packed_cells 4 4 t.n t.bytes.items, t.in_room)

pub returns-then-v-le-NEAR : goal.returns-then-v-le-NEAR
returns-then-v-le-NEAR c =
    let t = c.args.table.now in
    record { rank = rank_in (packed_cells 4 4 t.n t.bytes.items) c.args.self.now c.args.v c.count_near.result c.requires.lies c.requires.inside c.count_near.ensures.busy }

pub overflow_add-result : goal.overflow_add-result
overflow_add-result c =
    let t = c.args.table.now in
    let cells = cells_in (packed_cells 4 4 t.n t.bytes.items) c.args.self.now in
    let is = rank_in (packed_cells 4 4 t.n t.bytes.items) c.args.self.now c.args.v (c.count_near-2.result + c.count_busy.result) c.requires.lies c.requires.inside (omega (arith, c.count_near-2.ensures.busy, c.count_busy.ensures.busy)) in
    omega (arith, is, count_by-le-length (is_busy 3) (take c.args.v cells), length-take c.args.v cells, c.ranges.v.fits)

pub returns : goal.returns
returns c =
    let t = c.args.table.now in
    record { rank = rank_in (packed_cells 4 4 t.n t.bytes.items) c.args.self.now c.args.v _ c.requires.lies c.requires.inside (omega (arith, c.count_near-2.ensures.busy, c.count_busy.ensures.busy)) }
