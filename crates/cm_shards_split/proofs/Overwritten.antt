-- The files of the first shards, none of which is the keys file.
use Rattle.std.proofs.Common.{◌≡◌, ◌∙◌, ◌⊎◌, ℕ, ◌+◌, ◌<◌, ◌≤◌, List, inl, inr, ap, arith}
use Rattle.std.proofs.lemmas.Bool.{cases_lt}
use Rattle.cm_shards_split.specs.Names.{shard_path}

-- those of one shard more
pub none_more : (keys dir : List ℕ) (k : ℕ) → ((j : ℕ) → j < k → keys ≡ shard_path dir j → ⊥) → (keys ≡ shard_path dir k → ⊥) → (j : ℕ) → j < k + 1 → keys ≡ shard_path dir j → ⊥
none_more keys dir k before here j below same = go (cases_lt j k)
  where
    go : (j < k) ⊎ (k ≤ j) → ⊥
    go (inl less) = before j less same
    go (inr more) = here (same ∙ ap (shard_path dir) (omega (arith, below, more)))
