use Rattle.std.proofs.Common.{◌≡◌, ◌+◌, ◌<◌, ℕ, get_or, sum, take}
use Rattle.cm_brz_split.specs.Split.{size_by_words}
use Rattle.cm_brz_split.proofs.split.count_hashed.Given as goal

abbrev pub invariant-loop-hashed : goal.invariant-loop-hashed
invariant-loop-hashed l = record {
  all : sum l.sizes ≡ sum l.fn.sizes + l.hashed-index;
  each : (j : ℕ) → j < l.split.buckets → get_or l.sizes j 0 ≡ get_or l.fn.sizes j 0 + size_by_words (take l.hashed-index l.all) l.split.buckets j;
}
