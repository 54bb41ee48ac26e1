use Rattle.std.proofs.Common.{◌≡◌, ◌≤◌, ◌<◌, ◌+◌, ◌-◌, ◌*◌, ℕ, List, get_or, length, sum}
use Rattle.cm_graph_edges.specs.Graph.{Graph}
use Rattle.cm_peel.specs.Waiting.{IsSameTaking, AtTaking, marked_of}
use Rattle.cm_peel.proofs.blocks.empty_all.Given as goal

abbrev pub invariant-each : goal.invariant-each
invariant-each g l = record {
  high : l.b ≤ length l.taking.counts.now;
  none : (k : ℕ) → k < l.b → get_or l.taking.counts.now k 0 ≡ 0;
  taking : IsSameTaking l.taking l.fn.taking;
  state : (graph : Graph) (done : List ℕ) → AtTaking g.row.K graph l.fn.taking l.room (g.I.Incidence.links l.fn.incidence) done → AtTaking g.row.K graph l.taking l.room (g.I.Incidence.links l.incidence) done;
  count : length (marked_of l.taking.marks.now) ≡ length (marked_of l.fn.taking.marks.now) + l.count;
  steps : l.steps + 3 * sum l.taking.counts.now ≤ l.fn.steps + 3 * sum l.fn.taking.counts.now;
}

abbrev pub decreases-each : goal.decreases-each
decreases-each g l = length l.taking.counts.now - l.b
