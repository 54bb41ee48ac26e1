-- The numbers of the struct of a function.
use Rattle.std.proofs.Common.{◌≡◌, ◌∙◌, ℕ, ◌*◌, ◌/◌, ap, arith, length, refl, subst, sym}
use Rattle.std.proofs.Math.Nat.{mul-div_cancel_left}
use Rattle.cm_bdz.specs.Functions.{BdzPh}
use Rattle.cm_bdz.specs.Lent.{FitsBdz, FitsBdzPh, HeldBdz, bdz_held, bdz_ph_held}
use Rattle.cm_bdz.specs.declared.lent.BdzParts.{BdzParts}
use Rattle.cm_bdz.specs.declared.lent_ph.BdzPhParts.{BdzPhParts}
use Rattle.cm_bits.specs.FieldsLaws.{length-field_cells}
use Rattle.cm_bits.specs.PackedLaws.{length-packed_cells}
use Rattle.cm_chm.specs.Parts.{FitsChm, chm_held}
use Rattle.cm_chm.specs.declared.lent.ChmParts.{ChmParts}
use Rattle.cm_func.specs.declared.function.Func.TheVariants as func
use Rattle.cm_spec.specs.Chm.{Chm}
use Rattle.cmph_c.specs.Functions.{bdz_parts, bdz_ph_parts, chm_parts}
use Rattle.cmph_c.specs.Opening.{numbers_in, numbers_of}
use Rattle.cmph_c.specs.declared.function.Function.{Function}

pub chm_numbers : (c : Function) (parts : ChmParts) (f : Chm) → chm_parts c ≡ parts → FitsChm parts → chm_held parts ≡ f → c.b ≡ 0 → numbers_in c ≡ numbers_of (func.Chm f)
chm_numbers c parts f same fit held b =
    let fits : FitsChm (chm_parts c) = subst FitsChm (sym same) fit in
    let is : f ≡ chm_held (chm_parts c) = sym held ∙ ap chm_held (sym same) in
    let size : length f.cells ≡ c.size = ap (λ (x : Chm). length x.cells) is ∙ length-field_cells c.width c.size _ in
    let keys : f.keys ≡ c.keys = ap (λ (x : Chm). x.keys) is in
    let ratio : f.ratio ≡ c.ratio = ap (λ (x : Chm). x.ratio) is in
    let seed : f.seed ≡ c.seed = ap (λ (x : Chm). x.seed) is in
    rw (size, keys, ratio, seed, b, fits.keys_scaled, fits.vertices_scaled) refl

-- a third of so many vertices
third_of : (n size : ℕ) → n ≡ 3 * size → n / 3 ≡ size
third_of n size is = ap (λ (x : ℕ). x / 3) is ∙ mul-div_cancel_left size (omega arith)

pub bdz_numbers : (c : Function) (parts : BdzParts) (f : HeldBdz) → bdz_parts c ≡ parts → FitsBdz parts → bdz_held parts ≡ f → c.keys_scaled ≡ 0 → numbers_in c ≡ numbers_of (func.Bdz f.function)
bdz_numbers c parts f same fit held unused =
    let fits : FitsBdz (bdz_parts c) = subst FitsBdz (sym same) fit in
    let is : f ≡ bdz_held (bdz_parts c) = sym held ∙ ap bdz_held (sym same) in
    let many : length f.function.cells ≡ 3 * c.size = ap (λ (x : HeldBdz). length x.function.cells) is ∙ length-packed_cells 4 4 (3 * c.size) c.cells.now in
    let size : length f.function.cells / 3 ≡ c.size = third_of (length f.function.cells) c.size many in
    let keys : f.function.keys ≡ c.keys = ap (λ (x : HeldBdz). x.function.keys) is in
    let ratio : f.function.ratio ≡ c.ratio = ap (λ (x : HeldBdz). x.function.ratio) is in
    let seed : f.function.seed ≡ c.seed = ap (λ (x : HeldBdz). x.function.seed) is in
    let b : f.function.shift ≡ c.b = ap (λ (x : HeldBdz). x.function.shift) is in
    rw (size, keys, ratio, seed, b, unused, fits.scaled) refl

pub bdz_ph_numbers : (c : Function) (parts : BdzPhParts) (f : BdzPh) → bdz_ph_parts c ≡ parts → FitsBdzPh parts → bdz_ph_held parts ≡ f → c.keys_scaled ≡ 0 → c.b ≡ 0 → numbers_in c ≡ numbers_of (func.BdzPh f)
bdz_ph_numbers c parts f same fit held unused b =
    let fits : FitsBdzPh (bdz_ph_parts c) = subst FitsBdzPh (sym same) fit in
    let is : f ≡ bdz_ph_held (bdz_ph_parts c) = sym held ∙ ap bdz_ph_held (sym same) in
    let many : length f.cells ≡ 3 * c.size = ap (λ (x : BdzPh). length x.cells) is ∙ length-packed_cells 3 5 (3 * c.size) c.cells.now in
    let size : length f.cells / 3 ≡ c.size = third_of (length f.cells) c.size many in
    let keys : f.keys ≡ c.keys = ap (λ (x : BdzPh). x.keys) is in
    let ratio : f.ratio ≡ c.ratio = ap (λ (x : BdzPh). x.ratio) is in
    let seed : f.seed ≡ c.seed = ap (λ (x : BdzPh). x.seed) is in
    rw (size, keys, ratio, seed, unused, b, fits.scaled) refl
