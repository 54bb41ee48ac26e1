use Rattle.std.proofs.Common.{◌≡◌, ◌+◌, true}
use Rattle.cm_judge_core.proofs.Passing.{AreTaken}
use Rattle.cm_judge_core.proofs.walking.own_edges.Given as goal
use Rattle.cm_judge_core.specs.Walks.{HasLessBefore}

abbrev pub invariant-loop-count : goal.invariant-loop-count
invariant-loop-count g l =
    let P = g.P.KeyPass in
    let S = g.S.Scheme in
    record {
      ready : P.usable l.keys ≡ true;
      same : P.told l.keys ≡ P.told l.fn.keys;
      quiet : P.faults l.keys ≡ P.faults l.fn.keys;
      at : P.place l.keys ≡ l.count;
      before : HasLessBefore l.edges (P.last l.keys + 1) l.i;
      taken : AreTaken (P.told l.fn.keys) (S.rule l.scheme) l.sizes l.count (P.last l.keys) l.edges l.own.items;
    }
