-- What the bytes after a header are.
use Rattle.std.proofs.Common.{◌≡◌, ℕ, ◌+◌, ◌≤◌, ◌^◌, List, length, ap, arith, refl, Ok}
use Rattle.cm_bdz.specs.BdzLaws as bdz_laws
use Rattle.cm_bits.specs.Bound.{AllBelow}
use Rattle.cm_dump_images.specs.ImageLaws.{cells_of_image}
use Rattle.cm_dump_images.specs.Images.{fields_at}
use Rattle.cm_dump_items.specs.Reading.{end_at}
use Rattle.cm_filter.specs.Filters.{Filter, IsFingerprint}
use Rattle.cm_spec.specs.Bdz.{bdz_size}
use Rattle.cm_spec.specs.Image.{fields_byte, fields_len, width_of}
use Rattle.cm_spec.specs.Lists.{list_of}
use Rattle.cm_spec.specs.Rule.{IsRatio}
use Rattle.cm_spec.specs.declared.limits.TheConstants.{MAX_KEYS, MAX_VERTICES}
use Rattle.cm_filter_file.specs.FilterFiles.{cells_at}
use Rattle.cm_filter_file.specs.declared.header.Header.{Header}
use Rattle.cm_filter.specs.FilterLaws.{bound_most}

-- a filter has no more cells than a table may
pub few_cells : (m c : ℕ) → 1 ≤ m → m ≤ MAX_KEYS → IsRatio c → bdz_size m c ≤ MAX_VERTICES
few_cells m c some few ratio = bdz_laws.few_cells (bdz_size m c) m c refl (some, omega (arith, few)) ratio

-- the filter has the numbers of a header, and these cells
pub record IsFilterOf (h : Header) (xs : List ℕ) (f : Filter) : Type 0 where
  pub keys : f.keys ≡ h.keys
  pub ratio : f.ratio ≡ h.ratio
  pub seed : f.seed ≡ h.seed
  pub bits : f.bits ≡ h.w
  pub cells : f.cells ≡ xs

filter_of : (f : Filter) (k r s w : ℕ) (xs : List ℕ) → f.keys ≡ k → f.ratio ≡ r → f.seed ≡ s → f.bits ≡ w → f.cells ≡ xs
    → (let a : Filter = record { keys = k; ratio = r; seed = s; bits = w; cells = xs } in a) ≡ (let b : Filter = record { keys = f.keys; ratio = f.ratio; seed = f.seed; bits = f.bits; cells = f.cells } in b)
filter_of f k r s w xs is_k is_r is_s is_w is_xs = rw (is_k, is_r, is_s, is_w, is_xs) refl

-- the image of cells, and then the end
pub cells_known : (bytes : List ℕ) (h : Header) (xs : List ℕ) (f : Filter) → IsFingerprint h.w → length xs ≡ bdz_size h.keys h.ratio → AllBelow (2 ^ h.w) xs
    → fields_at bytes 24 (bdz_size h.keys h.ratio) (2 ^ h.w) ≡ Ok (list_of (fields_byte (width_of (2 ^ h.w)) xs) (fields_len (width_of (2 ^ h.w)) (bdz_size h.keys h.ratio)))
    → end_at bytes (24 + fields_len (width_of (2 ^ h.w)) (bdz_size h.keys h.ratio)) ≡ Ok tt → IsFilterOf h xs f → cells_at bytes h ≡ Ok f
unfolding cells_at
cells_known bytes h xs f fingerprint size below there ended of =
    let few : 2 ^ h.w ≤ MAX_KEYS = omega (arith, bound_most h.w fingerprint) in
    rw (there, ended, cells_of_image (2 ^ h.w) (bdz_size h.keys h.ratio) xs _ few size below refl) (ap Ok (filter_of f h.keys h.ratio h.seed h.w xs of.keys of.ratio of.seed of.bits of.cells))
