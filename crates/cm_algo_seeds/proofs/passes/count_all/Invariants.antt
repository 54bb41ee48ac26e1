use Rattle.std.proofs.Common.{◌≡◌, ◌≤◌, true, ℕ, List, length}
use Rattle.cm_algo_seeds.proofs.passes.count_all.Given as goal
use Rattle.cm_spec.specs.declared.limits.TheConstants.{MAX_KEYS}

abbrev pub invariant-loop-turn : goal.invariant-loop-turn
invariant-loop-turn g l =
    let P = g.P.KeyPass in
    record {
      ready : P.usable l.keys ≡ true;
      same : P.told l.keys ≡ P.told l.fn.keys;
      quiet : P.faults l.keys ≡ P.faults l.fn.keys;
      at : P.place l.keys ≡ l.count;
      some : l.turn ≤ l.count;
      few : l.count ≤ MAX_KEYS;
      gave : (passed : List (ℕ × List ℕ)) × P.gave l.keys passed × (length passed ≡ l.count);
    }
