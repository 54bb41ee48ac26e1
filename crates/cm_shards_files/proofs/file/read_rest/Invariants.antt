use Rattle.std.proofs.Common.{◌≡◌, ◌<◌, length}
use Rattle.cm_shards_files.proofs.file.read_rest.Given as goal

abbrev pub invariant-loop : goal.invariant-loop
invariant-loop g l =
    let told = g.S.Source.told in
    let faults = g.S.Source.faults in
    record {
      same : told l.source ≡ told l.fn.source;
      quiet : faults l.source ≡ faults l.fn.source;
      room : 0 < length l.chunk;
    }
