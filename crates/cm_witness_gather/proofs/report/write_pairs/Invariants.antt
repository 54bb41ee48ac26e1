use Rattle.std.proofs.Common.{◌≡◌, map, take}
use Rattle.cm_io.specs.Writing.{joined, then_bytes}
use Rattle.cm_witness_gather.specs.Reports.{pair_line}
use Rattle.cm_witness_gather.proofs.report.write_pairs.Given as goal

abbrev pub invariant-loop-pair : goal.invariant-loop-pair
invariant-loop-pair g l = record {
  lines : (g.O.Sink.state l.out).written ≡ then_bytes (g.O.Sink.state l.fn.out).written (joined (map pair_line (take l.pair-index l.pairs)));
  quiet : (g.O.Sink.state l.out).faults ≡ (g.O.Sink.state l.fn.out).faults;
}
