-- How many cells fitting parts hold, and below which bound.
use Rattle.std.proofs.Common.{◌≡◌, ◌∙◌, ℕ, ◌^◌, ◌≤◌, length, lit<, arith}
use Rattle.std.proofs.Math.Nat.{pow-le-pow_right}
use Rattle.cm_bits.specs.Fault.{bytes_number}
use Rattle.cm_bits.specs.FieldsLaws.{length-field_cells}
use Rattle.cm_chm.specs.Parts.{FitsChm, chm_held}
use Rattle.cm_chm.specs.declared.lent.ChmParts.{ChmParts}
use Rattle.cm_spec.specs.Chm.{chm_rule, chm_size}
use Rattle.cm_spec.specs.Rule.{IsSize}
use Rattle.cm_spec.specs.declared.limits.TheConstants.{MAX_KEYS}

pub chm_long : (p : ChmParts) → length (chm_held p).cells ≡ p.vertices
chm_long p = length-field_cells p.width p.vertices (bytes_number p.cells.now)

pub chm_sized : (p : ChmParts) → FitsChm p → length (chm_held p).cells ≡ chm_size p.keys p.ratio
chm_sized p fits = chm_long p ∙ fits.vertices

pub is_size : (p : ChmParts) → FitsChm p → IsSize chm_rule (length (chm_held p).cells)
is_size p fits = record { keys = p.keys; ratio = p.ratio; many = fits.keys; within = fits.ratio; is = chm_sized p fits }

-- numbers of at most 26 bits
pub narrow : (w : ℕ) → w ≤ 26 → 2 ^ w ≤ MAX_KEYS
narrow w few =
    let wide : 2 ^ w ≤ 2 ^ 26 = pow-le-pow_right (lit< tt) few in
    omega (arith, wide)
