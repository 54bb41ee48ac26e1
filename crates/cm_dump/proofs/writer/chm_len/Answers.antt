use Rattle.std.proofs.Common.{arith, ap, length, ◌≤◌}
use Rattle.cm_bits.specs.Fault.{bytes_number}
use Rattle.cm_bits.specs.FieldsLaws.{field_room_for}
use Rattle.cm_chm.specs.ChmLaws.{chm_is_rule}
use Rattle.cm_dump_images.specs.ImageLaws.{cells_near}
use Rattle.cm_dump.proofs.writer.chm_len.Goals as goal
use Rattle.cm_spec.specs.declared.limits.TheConstants.{MAX_EDGES, MAX_VERTICES}

pub image_len-requires-clause-room : goal.image_len-requires-clause-room
image_len-requires-clause-room c =
    let t = c.cells-cells.result.now in
    omega (arith, c.len.ensures, field_room_for t.width t.n (bytes_number t.bytes.items) t.in_room)

pub overflow_add-result : goal.overflow_add-result
overflow_add-result c =
    let t = c.cells-cells.result.now in
    let few : length c.args.chm.now.cells ≤ MAX_VERTICES = chm_is_rule.few (length c.args.chm.now.cells) c.cells-cells.ensures.vertices in
    let room : c.len.result ≤ MAX_VERTICES = omega (arith, c.len.ensures, ap length c.cells-cells.ensures.cells, few) in
    let small : c.bound.result ≤ MAX_EDGES = omega (arith, c.bound.ensures, t.small) in
    omega (arith, c.image_len.ensures, cells_near c.bound.result c.len.result small room)
