-- Functions in lent bytes of any values.
use Rattle.std.specs.Prelude.{◌≡◌, ◌/◌, ◌^◌, ◌≤◌, length}
use Rattle.cm_bits.specs.Fault.{bytes_number, field_cells}
use Rattle.cm_chm.specs.declared.lent.ChmParts.{ChmParts}
use Rattle.cm_spec.specs.Chm.{Chm, chm_size}
use Rattle.cm_spec.specs.Image.{fields_len}
use Rattle.cm_spec.specs.Rule.{IsRatio}
use Rattle.cm_spec.specs.declared.limits.TheConstants.{MAX_KEYS}

-- the numbers and the length of these parts fit together; the bytes may have any values
pub record FitsChm (p : ChmParts) : Type 0 where
  pub keys : (1 ≤ p.keys) × (p.keys ≤ MAX_KEYS)
  pub ratio : IsRatio p.ratio
  pub vertices : p.vertices ≡ chm_size p.keys p.ratio
  pub width : (1 ≤ p.width) × (p.width ≤ 26)
  pub keys_scaled : p.keys_scaled ≡ 2 ^ 32 / p.keys
  pub vertices_scaled : p.vertices_scaled ≡ 2 ^ 32 / p.vertices
  pub cells : length p.cells.now ≡ fields_len p.width p.vertices

-- the function that parts hold
abbrev pub chm_held : ChmParts → Chm
chm_held p = record { keys = p.keys; ratio = p.ratio; seed = p.seed; cells = field_cells p.width p.vertices (bytes_number p.cells.now) }
