use Rattle.std.proofs.Common.{◌≡◌, ◌≤◌, ◌+◌, drop, length}
use Rattle.cm_shards_join.specs.Counts.{differs_from, line_apart}
use Rattle.cm_shards_join.proofs.counting.line_apart.Given as goal

-- what is left of the texts differs where they do
abbrev pub invariant-loop-i : goal.invariant-loop-i
invariant-loop-i l = record {
  end : l.i-end ≡ length l.text;
  inside : l.i ≤ length l.other;
  few : l.line ≤ l.i + 1;
  left : line_apart l.text l.other ≡ differs_from l.line (drop l.i l.text) (drop l.i l.other);
}
