use Rattle.std.proofs.Common.{◌≡◌, take, length}
use Rattle.cm_io.specs.Writing.{then_bytes}
use Rattle.cm_shards_split.specs.Parts.{counts_of}
use Rattle.cm_shards_split.specs.Shares.{counts_text}
use Rattle.cm_shards_split.proofs.counts.write_counts.Given as goal

abbrev pub invariant-loop-i : goal.invariant-loop-i
invariant-loop-i g l = record {
  end : l.i-end ≡ length l.parts;
  text : (g.O.Sink.state l.out).written ≡ then_bytes (g.O.Sink.state l.initial.out).written (counts_text (take l.i (counts_of l.parts)));
  faults : (g.O.Sink.state l.out).faults ≡ (g.O.Sink.state l.initial.out).faults;
}
