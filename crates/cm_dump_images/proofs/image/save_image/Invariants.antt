use Rattle.std.proofs.Common.{◌≡◌, ◌-◌, ◌≤◌, map}
use Rattle.std.specs.List.{range_with_len}
use Rattle.cm_io.specs.Writing.{then_bytes}
use Rattle.cm_dump_images.proofs.image.save_image.Given as goal

abbrev pub invariant-pieces : goal.invariant-pieces
invariant-pieces g l = record {
  quiet : (g.O.Sink.state l.out).faults ≡ (g.O.Sink.state l.fn.out).faults;
  within : l.at ≤ l.len;
  bytes : (g.O.Sink.state l.out).written ≡ then_bytes (g.O.Sink.state l.fn.out).written (map (g.C.Cells.image_byte (g.C.Cells.bound_of l.table) (g.C.Cells.cells l.table)) (range_with_len 0 l.at));
}

abbrev pub decreases-pieces : goal.decreases-pieces
decreases-pieces g l = l.len - l.at
