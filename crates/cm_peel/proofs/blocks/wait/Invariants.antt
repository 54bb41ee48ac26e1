use Rattle.std.proofs.Common.{◌≡◌, ◌≤◌, ◌+◌, ◌*◌, ◌++◌, ℕ, List, length, map, sum, take}
use Rattle.cm_graph_edges.specs.Graph.{Graph}
use Rattle.cm_peel.specs.Waiting.{CanWait, IsOpen, IsSameTaking, AtTaking, marked_of}
use Rattle.cm_peel.proofs.Incident.{place_in}
use Rattle.cm_peel.proofs.blocks.wait.Given as goal

abbrev pub invariant-loop-half : goal.invariant-loop-half
invariant-loop-half g l = record {
  free : IsOpen l.fn.taking.plan.size l.taking.counts.now;
  taking : IsSameTaking l.taking l.fn.taking;
  state : (graph : Graph) (done : List ℕ) → CanWait graph.edges l.fn.taking.plan.rounds done l.halves → AtTaking g.row.K graph l.fn.taking l.fn.room (g.I.Incidence.links l.fn.incidence) done → AtTaking g.row.K graph l.taking l.room (g.I.Incidence.links l.incidence) (done ++ map place_in (take l.half-index l.halves));
  count : length (marked_of l.taking.marks.now) ≡ length (marked_of l.fn.taking.marks.now) + l.count;
  steps : l.steps + 3 * sum l.taking.counts.now ≤ l.fn.steps + 3 * (sum l.fn.taking.counts.now + l.half-index);
}
