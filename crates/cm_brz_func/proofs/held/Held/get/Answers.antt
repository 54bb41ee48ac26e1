use Rattle.std.proofs.Common.{arith, lit<}
use Rattle.cm_bits.specs.PackedLaws.{AllBelow-packed_cells, length-packed_cells}
use Rattle.cm_brz_func.proofs.held.Held.get.Goals as goal

pub overflow_add-self : goal.overflow_add-self
overflow_add-self c =
    let t = c.args.table.now in
    omega (arith, c.requires.lies.within, c.requires.inside, length-packed_cells 4 4 t.n t.bytes.items, t.in_room)

pub returns-clause-below : goal.returns-clause-below
returns-clause-below c =
    let t = c.args.table.now in
    rw c.get.ensures (AllBelow-packed_cells 4 4 t.n t.bytes.items (lit< tt) _ (omega (arith, c.requires.lies.within, c.requires.inside)))
