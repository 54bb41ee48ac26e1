use Rattle.std.proofs.Common.{◌≡◌, ◌≤◌, ◌+◌, ◌-◌, ◌*◌, length, sum}
use Rattle.cm_peel.specs.Waiting.{IsOpen, IsSameTaking, AtTaking, marked_of}
use Rattle.cm_peel.proofs.Unlinking.{gone_before}
use Rattle.cm_peel.proofs.blocks.wait_round.Given as goal

abbrev pub invariant-chunks : goal.invariant-chunks
invariant-chunks g l = record {
  high : l.at ≤ length l.round;
  ends : length l.ends ≡ 64;
  halves : length l.halves ≡ 192;
  known : length l.known ≡ 192;
  free : IsOpen l.fn.taking.plan.size l.taking.counts.now;
  taking : IsSameTaking l.taking l.fn.taking;
  state : AtTaking g.row.K l.edges l.taking l.room (g.I.Incidence.links l.incidence) (gone_before l.edges l.fn.taking.plan.rounds l.at);
  count : length (marked_of l.taking.marks.now) ≡ length (marked_of l.fn.taking.marks.now) + l.count;
  steps : l.steps + 3 * sum l.taking.counts.now ≤ l.fn.steps + 3 * (sum l.fn.taking.counts.now + g.row.K * l.at);
}

abbrev pub decreases-chunks : goal.decreases-chunks
decreases-chunks g l = length l.round - l.at
