use Rattle.std.proofs.Common.{◌≡◌, ◌≤◌, ◌+◌, ◌++◌, length, take}
use Rattle.cm_peel.specs.Incident.{other_halves}
use Rattle.cm_peel.proofs.chunk.add_halves.Given as goal

abbrev pub invariant-loop-i : goal.invariant-loop-i
invariant-loop-i g l = record {
  long : length l.halves ≡ length l.fn.halves;
  halves : take l.at l.halves ≡ take l.count l.fn.halves ++ other_halves l.e l.pivot 0 (take l.i l.ends);
  few : l.at ≤ l.count + l.i;
}
