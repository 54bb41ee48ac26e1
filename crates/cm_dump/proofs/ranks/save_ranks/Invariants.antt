use Rattle.std.proofs.Common.{◌≡◌, ◌-◌, ◌≤◌, take}
use Rattle.cm_io.specs.Writing.{then_bytes}
use Rattle.cm_dump.specs.Dumps.{ranks_image}
use Rattle.cm_dump.proofs.ranks.save_ranks.Given as goal

abbrev pub invariant-pieces : goal.invariant-pieces
invariant-pieces g l = record {
  quiet : (g.O.Sink.state l.out).faults ≡ (g.O.Sink.state l.fn.out).faults;
  within : l.done ≤ l.entries;
  bytes : (g.O.Sink.state l.out).written ≡ then_bytes (g.O.Sink.state l.fn.out).written (ranks_image (take l.done l.ranks.ranks));
}

abbrev pub decreases-pieces : goal.decreases-pieces
decreases-pieces g l = l.entries - l.done
