use Rattle.std.proofs.Common.{◌≡◌, ◌-◌, ◌<◌, ◌≤◌, ℕ, get_or, length}
use Rattle.cm_peel.proofs.freed.clear.Given as goal

abbrev pub invariant-each : goal.invariant-each
invariant-each l = record {
  high : l.b ≤ l.blocks;
  long : length l.freed ≡ length l.fn.freed;
  none : (k : ℕ) → k < l.b → get_or l.freed k 0 ≡ 0;
}

abbrev pub decreases-each : goal.decreases-each
decreases-each l = l.blocks - l.b
