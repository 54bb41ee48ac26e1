-- What a CHM function keeps.
use Rattle.std.specs.Prelude.{◌≡◌, ◌<◌, ◌≤◌, ◌^◌, length}
use Rattle.cm_bits.specs.Bound.{AllBelow}
use Rattle.cm_spec.specs.declared.limits.TheConstants.{MAX_KEYS}
use Rattle.cm_spec.specs.Chm.{Chm, chm_size}
use Rattle.cm_spec.specs.Rule.{IsRatio}

-- a CHM function: its numbers are in their ranges, and it has as many cells as its graph has vertices, each below the number of keys
pub record IsChm (f : Chm) : Type 0 where
  pub keys : (1 ≤ f.keys) × (f.keys ≤ MAX_KEYS)
  pub ratio : IsRatio f.ratio
  pub seed : f.seed < 2 ^ 32
  pub size : length f.cells ≡ chm_size f.keys f.ratio
  pub below : AllBelow f.keys f.cells
