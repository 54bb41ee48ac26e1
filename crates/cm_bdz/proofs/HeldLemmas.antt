-- How many cells and ranks fitting parts hold.
use Rattle.std.proofs.Common.{◌≡◌, ℕ, ◌*◌, ◌/◌, ◌^◌, ◌<◌, ◌≤◌, length, arith}
use Rattle.std.proofs.lemmas.Nat.{pow_pos}
use Rattle.cm_bdz.specs.Functions.{IsThirds}
use Rattle.cm_bdz.specs.Lent.{FitsBdz, FitsBdzPh, bdz_held, bdz_ph_held}
use Rattle.cm_bdz.specs.declared.lent.BdzParts.{BdzParts}
use Rattle.cm_bdz.specs.declared.lent_ph.BdzPhParts.{BdzPhParts}
use Rattle.cm_bits.specs.PackedLaws.{length-packed_cells, place_lt}
use Rattle.cm_rank.specs.RankLaws.{length-ranks_in}
use Rattle.cm_spec.specs.declared.limits.TheConstants.{MAX_VERTICES}

pub bdz_long : (p : BdzParts) → length (bdz_held p).function.cells ≡ 3 * p.third
bdz_long p = length-packed_cells 4 4 (3 * p.third) p.cells.now

pub bdz_thirds : (p : BdzParts) → FitsBdz p → IsThirds (length (bdz_held p).function.cells)
bdz_thirds p fits = record { third = p.third; some = fits.third.0; is = bdz_long p }

-- there is a rank for the block of each cell
pub rank_there : (p : BdzParts) → FitsBdz p → (v : ℕ) → v < length (bdz_held p).function.cells → v / 2 ^ p.b < length (bdz_held p).ranks
rank_there p fits v inside =
    let within : v < 3 * p.third = omega (arith, inside, bdz_long p) in
    omega (arith, place_lt (2 ^ p.b) (3 * p.third) v (pow_pos p.b) within, fits.ranks, length-ranks_in p.ranks.now)

pub bdz_ph_long : (p : BdzPhParts) → length (bdz_ph_held p).cells ≡ 3 * p.third
bdz_ph_long p = length-packed_cells 3 5 (3 * p.third) p.cells.now

pub bdz_ph_thirds : (p : BdzPhParts) → FitsBdzPh p → IsThirds (length (bdz_ph_held p).cells)
bdz_ph_thirds p fits = record { third = p.third; some = fits.third.0; is = bdz_ph_long p }

pub bdz_ph_few : (p : BdzPhParts) → FitsBdzPh p → length (bdz_ph_held p).cells ≤ MAX_VERTICES
bdz_ph_few p fits = omega (arith, bdz_ph_long p, fits.third.1)
