use Rattle.std.proofs.Common.{◌≡◌, ℕ, ◌+◌, ◌-◌, ◌*◌, ◌≤◌, length, take, drop}
use Rattle.cm_keys_made.specs.Texts.{made_text}
use Rattle.cm_keys_made.proofs.lines.fill.Given as goal

abbrev pub invariant-loop-done : goal.invariant-loop-done
invariant-loop-done l = record {
  size : length l.buf ≡ length l.fn.buf;
  inside : l.done ≤ length l.buf;
  bytes : (keys : ℕ) → l.place + length l.buf ≤ 15 * keys → take l.done l.buf ≡ take l.done (drop l.place (made_text keys));
}

abbrev pub decreases-loop-done : goal.decreases-loop-done
decreases-loop-done l = length l.buf - l.done
