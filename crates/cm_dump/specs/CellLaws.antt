-- Lemmas about how many cells a function has at most, which the proofs of readers cite. No contract needs them.
use Rattle.std.proofs.Common.{ℕ, ◌≤◌, arith, refl}
use Rattle.cm_bdz.specs.BdzLaws as bdz_laws
use Rattle.cm_chm.specs.ChmLaws.{chm_is_rule}
use Rattle.cm_spec.specs.declared.limits.TheConstants.{MAX_KEYS, MAX_VERTICES}
use Rattle.cm_spec.specs.Bdz.{bdz_size}
use Rattle.cm_spec.specs.Chm.{chm_size, chm_rule}
use Rattle.cm_spec.specs.Rule.{IsRatio, IsSize}

-- a function has no more cells than a table may
pub few_cells : (m c : ℕ) → 1 ≤ m → m ≤ MAX_KEYS → IsRatio c → chm_size m c ≤ MAX_VERTICES
few_cells m c some few ratio =
    let size : IsSize chm_rule (chm_size m c) = record { keys = m; ratio = c; many = (some, omega (arith, few)); within = ratio; is = refl } in
    chm_is_rule.few (chm_size m c) size

-- and neither has one by BDZ or BDZ_PH
pub few_vertices : (m c : ℕ) → 1 ≤ m → m ≤ MAX_KEYS → IsRatio c → bdz_size m c ≤ MAX_VERTICES
few_vertices m c some few ratio = bdz_laws.few_cells (bdz_size m c) m c refl (some, omega (arith, few)) ratio
