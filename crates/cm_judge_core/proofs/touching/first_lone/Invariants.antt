use Rattle.std.proofs.Common.{◌≡◌, ◌≢◌, ◌<◌, ℕ, length, min, slice_index, take}
use Rattle.cm_judge_verdict.specs.Verdicts.{touching}
use Rattle.cm_judge_core.proofs.touching.first_lone.Given as goal

abbrev pub invariant-loop-edge : goal.invariant-loop-edge
invariant-loop-edge g l =
    let T = g.T.Cells in
    record {
      bound : T.bound_of l.table ≡ 4;
      long : length (T.cells l.table) ≡ l.n;
      counts : (v : ℕ) → v < l.n → slice_index (T.cells l.table) v ≡ min 2 (touching (take l.edge-index l.edges) v);
    }

abbrev pub invariant-loop-v : goal.invariant-loop-v
invariant-loop-v g l = (u : ℕ) → u < l.v → touching l.edges u ≢ 1
