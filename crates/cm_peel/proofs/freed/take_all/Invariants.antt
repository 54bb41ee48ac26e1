use Rattle.std.proofs.Common.{◌≡◌, ◌+◌, ◌-◌, ◌<◌, ◌≤◌, ℕ, List, get_or, length}
use Rattle.cm_peel.specs.Waiting.{Leads, by_plan, marked_of}
use Rattle.cm_peel.proofs.freed.take_all.Given as goal

abbrev pub invariant-each : goal.invariant-each
invariant-each l = record {
  high : l.b ≤ l.plan.blocks;
  none : (k : ℕ) → k < l.b → get_or l.freed k 0 ≡ 0;
  state : (after next : List ℕ) → Leads (by_plan l.plan l.fn.marks l.fn.bytes l.fn.freed) after next → Leads (by_plan l.plan l.marks l.bytes l.freed) after next;
  count : length (marked_of l.marks) ≡ length (marked_of l.fn.marks) + l.count;
}

abbrev pub decreases-each : goal.decreases-each
decreases-each l = l.plan.blocks - l.b
