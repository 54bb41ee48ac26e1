use Rattle.std.proofs.Common.{◌≡◌, map, take}
use Rattle.cm_io.specs.Writing.{joined, then_bytes}
use Rattle.cm_witness_gather.specs.Reports.{edge_line}
use Rattle.cm_witness_gather.proofs.report.write_edges.Given as goal

abbrev pub invariant-loop-edge : goal.invariant-loop-edge
invariant-loop-edge g l = record {
  lines : (g.O.Sink.state l.out).written ≡ then_bytes (g.O.Sink.state l.fn.out).written (joined (map edge_line (take l.edge-index l.edges)));
  quiet : (g.O.Sink.state l.out).faults ≡ (g.O.Sink.state l.fn.out).faults;
}
