use Rattle.std.proofs.Common.{◌≡◌, ◌+◌, ℕ, List, length, take}
use Rattle.cm_peel.specs.AtRound.{AreTaken}
use Rattle.cm_peel.specs.Waiting.{AreOpen, Leads, by_plan, marked_of}
use Rattle.cm_peel.proofs.freed.wait.Given as goal

abbrev pub invariant-loop-place : goal.invariant-loop-place
invariant-loop-place l = record {
  long : length l.bytes ≡ length l.fn.bytes;
  free : AreOpen l.plan.blocks l.plan.each l.freed;
  state : (after next : List ℕ) → Leads (by_plan l.plan l.fn.marks l.fn.bytes l.fn.freed) after next
      → (after' : List ℕ) × (next' : List ℕ) × AreTaken l.plan.rounds (take l.place-index l.places) after after' next next' × Leads (by_plan l.plan l.marks l.bytes l.freed) after' next';
  count : length (marked_of l.marks) ≡ length (marked_of l.fn.marks) + l.count;
}
