use Rattle.std.proofs.Common.{◌≡◌, take}
use Rattle.cm_io.specs.Writing.{joined, then_bytes}
use Rattle.cm_io.proofs.WriteLemmas.{texts}
use Rattle.cm_io.proofs.sink.write_pieces.Given as goal

abbrev pub invariant-loop-piece : goal.invariant-loop-piece
invariant-loop-piece g l = record {
  bytes : (g.O.Sink.state l.out).written ≡ then_bytes (g.O.Sink.state l.fn.out).written (joined (texts (take l.piece-index l.pieces)));
  quiet : (g.O.Sink.state l.out).faults ≡ (g.O.Sink.state l.fn.out).faults;
}
