use Rattle.std.proofs.Common.{◌≡◌, ◌<◌, ◌≤◌, ◌-◌, length}
use Rattle.cm_io_append.specs.Wholes.{HasRead}
use Rattle.cm_io_append.proofs.whole.read_prefix.Given as goal

abbrev pub invariant-loop-chunk : goal.invariant-loop-chunk
invariant-loop-chunk g l =
    let told = g.S.Source.told in
    let faults = g.S.Source.faults in
    record {
      so_far : HasRead (told l.source) (g.S.Source.place l.source) l.bytes.items;
      few : length l.bytes.items ≤ l.limit;
      same : told l.source ≡ told l.fn.source;
      quiet : faults l.source ≡ faults l.fn.source;
      room : 0 < length l.chunk;
    }

abbrev pub decreases-loop-chunk : goal.decreases-loop-chunk
decreases-loop-chunk g l = l.limit - length l.bytes.items
