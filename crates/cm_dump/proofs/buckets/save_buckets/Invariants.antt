use Rattle.std.proofs.Common.{◌≡◌, take}
use Rattle.cm_io.specs.Writing.{then_bytes}
use Rattle.cm_dump.specs.Dumps.{buckets_image}
use Rattle.cm_dump.specs.Forms.{version_2}
use Rattle.cm_dump.proofs.buckets.save_buckets.Given as goal

abbrev pub invariant-loop-j : goal.invariant-loop-j
invariant-loop-j g l = record {
  quiet : (g.O.Sink.state l.out).faults ≡ (g.O.Sink.state l.fn.out).faults;
  bytes : (g.O.Sink.state l.out).written ≡ then_bytes (g.O.Sink.state l.fn.out).written (buckets_image version_2 (take l.j l.brz.buckets));
}
