-- The shards of many keys, and why none is put.
use Rattle.std.specs.Prelude.{◌≡◌, ◌<◌, ◌≤◌, ◌⊎◌, ℕ, List, length, Some}
use Rattle.cm_keys_lent.specs.Pass.{IsLentPass}
use Rattle.cm_lib_lent.specs.Numbers.{ArePut}
use Rattle.cm_route.specs.Routes.{shard_of}
use Rattle.cm_spec.specs.declared.limits.TheConstants.{MAX_VERTICES}
use Rattle.cmph_c.specs.Answering.{IsBadEnd, IsShort, pass_of}
use Rattle.cmph_c.specs.Codes.{at_only}
use Rattle.cmph_c.specs.declared.codes.Place.{Place}
use Rattle.cmph_c.specs.declared.codes.TheConstants.{BAD_SHARDS}

-- The number of shards is in its range, the ends are those of keys, there is room, and each key's shard is put.
pub record AreRouted (bytes ends : List ℕ) (seed shards : ℕ) (old new : List ℕ) : Type 0 where
  pub within : (1 ≤ shards) × (shards ≤ MAX_VERTICES)
  pub keys_are : IsLentPass (pass_of bytes ends)
  pub room : length ends ≤ length old
  pub put : ArePut (λ key. Some (shard_of (record { seed = seed; shards = shards }) key)) (pass_of bytes ends) 0 (length ends) old new

-- No shard is put: there are none or too many; or their number is right, and the ends are wrong; or these are right, and there is no room.
abbrev pub IsUnrouted : List ℕ → List ℕ → ℕ → List ℕ → ℕ → Place → Type 0
IsUnrouted bytes ends shards out code place =
    (((shards ≡ 0) ⊎ (MAX_VERTICES < shards)) × (code ≡ BAD_SHARDS) × (place ≡ at_only 0))
    ⊎ (((1 ≤ shards) × (shards ≤ MAX_VERTICES)) × (IsBadEnd bytes ends code place ⊎ IsShort bytes ends out code place))
