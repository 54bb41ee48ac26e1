use Rattle.std.proofs.Common.{◌≡◌, ◌<◌, ℕ, length, get_or}
use Rattle.cm_peel.proofs.chunk.look_up.Given as goal

abbrev pub invariant-loop-i : goal.invariant-loop-i
invariant-loop-i l = record {
  long : length l.marks ≡ length l.fn.marks;
  marks : (k : ℕ) → k < l.i → get_or l.marks k 0 ≡ get_or l.bytes (get_or l.chunk k 0) 0;
}
