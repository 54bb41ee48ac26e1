-- Manifests: which functions there are over shards of keys, in their order.
use Rattle.std.specs.Prelude.{◌≡◌, ◌<◌, ◌≤◌, ◌+◌, ◌^◌, ℕ, List, [], ◌∷◌, length, IsUtf8}
use Rattle.std.specs.List.{sum_by}
use Rattle.cm_algo_names.specs.declared.algorithm.Algorithm.{Algorithm}
use Rattle.cm_bits.specs.Bound.{AllBelow}
use Rattle.cm_route.specs.declared.route.TheConstants.{MAX_SHARDS}
use Rattle.cm_spec.specs.declared.limits.TheConstants.{MAX_KEYS, MAX_VERTICES}
use Rattle.cm_shards_manifest.specs.declared.limits.TheConstants.{MAX_NAME}
use Rattle.cm_shards_manifest.specs.declared.shard.Shard.{Shard}

-- A manifest: the algorithm of all functions, the seed of the route of keys into shards, and the shards in order.
pub record Manifest : Type 0 where
  pub algorithm : Algorithm
  pub seed : ℕ
  pub shards : List Shard

-- the sum of the spans, and that of the numbers of keys
abbrev pub spans : List Shard → ℕ
spans shards = sum_by (λ s. s.span) shards

abbrev pub keys_in : List Shard → ℕ
keys_in shards = sum_by (λ s. s.keys) shards

abbrev pub total : Manifest → ℕ
total m = spans m.shards

abbrev pub key_total : Manifest → ℕ
key_total m = keys_in m.shards

-- The ranges of what is said of a shard.
pub record IsShard (s : Shard) : Type 0 where
  pub name : (1 ≤ length s.name) × (length s.name ≤ MAX_NAME)
  pub text : IsUtf8 s.name
  pub keys : (1 ≤ s.keys) × (s.keys ≤ MAX_KEYS)
  pub span : (1 ≤ s.span) × (s.span ≤ MAX_VERTICES)
  pub len : s.len < 2 ^ 64
  pub digest : (length s.digest ≡ 32) × AllBelow 256 s.digest

-- Shards after others whose spans have this sum: each offset is the sum of the spans before it.
abbrev pub AreShards : ℕ → List Shard → Type 0
AreShards before [] = Unit {0}
AreShards before (s ∷ shards) = IsShard s × (s.offset ≡ before) × AreShards (before + s.span) shards

-- There are from 1 to `MAX_SHARDS` shards.
pub record IsManifest (m : Manifest) : Type 0 where
  pub seed : m.seed < 2 ^ 32
  pub count : (1 ≤ length m.shards) × (length m.shards ≤ MAX_SHARDS)
  pub shards : AreShards 0 m.shards
