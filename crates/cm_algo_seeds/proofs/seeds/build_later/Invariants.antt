use Rattle.std.proofs.Common.{◌≡◌, ◌≢◌, ◌+◌, ◌*◌, ◌<◌, ◌≤◌, ℕ, [], get_or}
use Rattle.std.specs.Option.{ForSome}
use Rattle.cm_spec.specs.Built.{graph_of}
use Rattle.cm_spec.specs.Rounds.{rest_of}
use Rattle.cm_algo_seeds.proofs.seeds.build_later.Given as goal

abbrev pub invariant-loop-i : goal.invariant-loop-i
invariant-loop-i g l =
    let P = g.P.KeyPass in
    record {
      told : P.told l.keys ≡ P.told l.fn.keys;
      quiet : P.faults l.keys ≡ P.faults l.fn.keys;
      steps : l.steps + 8 * (g.row.K * l.m) ≤ l.fn.steps + 8 * (g.row.K * l.m) * l.i;
      left : ForSome (P.told l.fn.keys) (λ told. (j : ℕ) → j < l.i → rest_of (graph_of (g.S.Scheme.rule l.scheme) told.keys l.c (get_or l.seeds j 0)) ≢ []);
    }
