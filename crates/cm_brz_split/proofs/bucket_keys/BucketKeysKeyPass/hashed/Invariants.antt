use Rattle.std.proofs.Common.{◌≢◌, ◌<◌, ℕ, get_or}
use Rattle.cm_brz_split.proofs.bucket_keys.BucketKeysKeyPass.hashed.Given as goal

abbrev pub invariant-loop-i : goal.invariant-loop-i
invariant-loop-i l = (j : ℕ) → j < l.i → get_or l.self.seeds j 0 ≢ l.seed
