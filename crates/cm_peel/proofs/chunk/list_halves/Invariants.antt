use Rattle.std.proofs.Common.{◌≡◌, ◌≤◌, ◌*◌, length, take}
use Rattle.cm_peel.specs.Incident.{other_halves_all, pivot_in}
use Rattle.cm_peel.proofs.chunk.list_halves.Given as goal

abbrev pub invariant-loop-i : goal.invariant-loop-i
invariant-loop-i g l = record {
  long : length l.halves ≡ length l.fn.halves;
  halves : take l.count l.halves ≡ other_halves_all l.edges.edges (pivot_in l.bytes) (take l.i l.chunk);
  few : l.count ≤ g.row.K * l.i;
}
