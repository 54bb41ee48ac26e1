use Rattle.std.proofs.Common.{◌≡◌, length, map, take, get_or}
use Rattle.cm_algo_cells.proofs.cells.look_up.Given as goal

abbrev pub invariant-loop-i : goal.invariant-loop-i
invariant-loop-i g l = record {
  positions_long : length l.positions ≡ length l.chunk;
  targets_long : length l.targets ≡ length l.chunk;
  positions : take l.i l.positions ≡ map (λ e. get_or l.peeled.pivots e 0) (take l.i l.chunk);
  targets : take l.i l.targets ≡ map (λ e. (g.S.Scheme.rule l.scheme).target e (get_or l.peeled.pivots e 0) (get_or l.tags e 0)) (take l.i l.chunk);
}
