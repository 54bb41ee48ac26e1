use Rattle.std.proofs.Common.{◌≡◌, ◌-◌, map}
use Rattle.std.specs.List.{range_with_len}
use Rattle.cm_dump_images.proofs.image.gather.Given as goal

abbrev pub invariant-loop-i : goal.invariant-loop-i
invariant-loop-i g l = l.piece.items ≡ map (g.C.Cells.image_byte (g.C.Cells.bound_of l.table) (g.C.Cells.cells l.table)) (range_with_len l.from (l.i - l.from))
