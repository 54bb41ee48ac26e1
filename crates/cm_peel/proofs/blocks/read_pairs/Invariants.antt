use Rattle.std.proofs.Common.{◌≡◌, ◌≤◌, ◌-◌, length, take}
use Rattle.cm_peel.specs.Waiting.{halves_in}
use Rattle.cm_peel.proofs.blocks.read_pairs.Given as goal

abbrev pub invariant-halves : goal.invariant-halves
invariant-halves l = record {
  long : length l.halves ≡ length l.fn.halves;
  high : l.i ≤ length l.halves;
  read : take l.i l.halves ≡ take l.i (halves_in l.pairs);
}

abbrev pub decreases-halves : goal.decreases-halves
decreases-halves l = length l.halves - l.i
