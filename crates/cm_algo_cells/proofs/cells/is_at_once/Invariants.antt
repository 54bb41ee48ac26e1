use Rattle.std.proofs.Common.{◌≡◌, ◌<◌, ℕ, get_or}
use Rattle.cm_algo_cells.proofs.cells.is_at_once.Given as goal

abbrev pub invariant-loop-e : goal.invariant-loop-e
invariant-loop-e g l = (k : ℕ) → k < l.e-index → get_or l.peeled.parities (get_or l.chunk k 0) 0 ≡ l.parity
