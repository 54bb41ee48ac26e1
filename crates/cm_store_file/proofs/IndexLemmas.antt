-- How long the dump of an index is.
use Rattle.std.proofs.Common.{◌≡◌, ◌∙◌, ℕ, ◌+◌, ◌*◌, ◌/◌, ◌%◌, ◌<◌, ◌≤◌, ◌^◌, List, [], ◌∷◌, ◌++◌, length, ap, arith, refl, length-append, lit<, w32, if◌then◌else◌}
use Rattle.std.specs.Prelude.{nat_eq}
use Rattle.std.specs.Cmp.Lexicographic.{pointwise}
use Rattle.std.specs.Int.{div_ceil, to_le_bytes}
use Rattle.std.specs.List.{flat_map}
use Rattle.std.proofs.Math.Nat.{div-add-mod, mul-le-mul_left, pow-le-pow_right}
use Rattle.std.proofs.lemmas.List.{take-append-le}
use Rattle.std.proofs.lemmas.List.FromFn.{length-map-range_with_len}
use Rattle.std.proofs.lemmas.Nat.{le-div}
use Rattle.cm_bdz.specs.BdzLaws as bdz_laws
use Rattle.cm_bdz.specs.Functions.{Bdz, IsBdz}
use Rattle.cm_dump.specs.Dumps.{bdz_dump, dump_by, header, packed_image, ranks_image}
use Rattle.cm_dump.specs.Forms.{form_of, version_2, version_of}
use Rattle.cm_dump.specs.declared.versions.Version.{Version}
use Rattle.cm_dump.specs.declared.versions.Version.TheVariants as version
use Rattle.cm_func.specs.declared.function.Func.TheVariants as func
use Rattle.cm_rank.specs.Ranks.{sampled}
use Rattle.cm_spec.specs.Image.{packed_len}
use Rattle.cm_spec.specs.declared.limits.TheConstants.{MAX_VERTICES}
use Rattle.cm_store_file.specs.StoreFiles.{index_bytes}

length-header : (w : Version) (b keys ratio seed : ℕ) → length (header (form_of w) 2 b keys ratio seed) ≡ 24
unfolding header
length-header version.One b keys ratio seed = refl
length-header version.Two b keys ratio seed = refl

length-image : (cells : List ℕ) → length (packed_image 4 4 cells) ≡ packed_len 4 (length cells)
unfolding packed_image
length-image cells = length-map-range_with_len _ 0 _

length-ranks : (ranks : List ℕ) → length (ranks_image ranks) ≡ 4 * length ranks
unfolding ranks_image
length-ranks [] = refl
length-ranks (r ∷ rs) = length-append (to_le_bytes w32 r) (flat_map (to_le_bytes w32) rs) ∙ omega (arith, length-ranks rs)

length-sampled : (shift : ℕ) (cells : List ℕ) → length (sampled 3 shift cells) ≡ div_ceil (length cells) (2 ^ shift)
unfolding sampled
length-sampled shift cells = length-map-range_with_len _ 0 _

-- there are few parts of at least eight each
few_parts : (n step : ℕ) → 8 ≤ step → div_ceil n step ≤ n / 8 + 1
few_parts n step some =
    let parts : step * (n / step) + n % step ≡ n = div-add-mod n step in
    let more : n / step * 8 ≤ n / step * step = mul-le-mul_left (n / step) some in
    let whole : n / step ≤ n / 8 = le-div (n / step) n 8 (omega arith) (omega (arith, parts, more)) in
    omega (arith, whole)

-- the length of an index fits in four bytes
pub index_short : (f : Bdz) → IsBdz f → length (index_bytes f) < 2 ^ 32
unfolding bdz_dump
index_short f is =
    let cells : length f.cells ≤ MAX_VERTICES = bdz_laws.few_cells (length f.cells) f.keys f.ratio is.size (is.keys.0, omega (arith, is.keys.1)) is.ratio in
    let step : 2 ^ 3 ≤ 2 ^ f.shift = pow-le-pow_right (lit< tt) is.shift.0 in
    let parts = few_parts (length f.cells) (2 ^ f.shift) (omega (arith, step)) in
    omega (
      arith,
      length-append (header version_2 2 f.shift f.keys f.ratio f.seed) (packed_image 4 4 f.cells ++ ranks_image (sampled 3 f.shift f.cells)),
      length-header version.Two f.shift f.keys f.ratio f.seed,
      length-append (packed_image 4 4 f.cells) (ranks_image (sampled 3 f.shift f.cells)),
      length-image f.cells,
      length-ranks (sampled 3 f.shift f.cells),
      length-sampled f.shift f.cells,
      cells,
      parts,
    )

-- a dump holds its header
dump_long : (w : Version) (f : Bdz) → 24 ≤ length (dump_by (form_of w) (func.Bdz f))
unfolding bdz_dump
dump_long w f =
    omega (arith, length-append (header (form_of w) 2 f.shift f.keys f.ratio f.seed) (packed_image 4 4 f.cells ++ ranks_image (sampled 3 f.shift f.cells)), length-header w f.shift f.keys f.ratio f.seed)

-- and so its version is the one that any bytes name which begin with it
pub version_first : (w : Version) (f : Bdz) (bytes rest : List ℕ) → dump_by (form_of w) (func.Bdz f) ≡ bytes → version_of (bytes ++ rest) ≡ version_of bytes
version_first w f bytes rest is =
    let inside : 8 ≤ length bytes = omega (arith, ap length is, dump_long w f) in
    ap (λ (l : List ℕ). if pointwise nat_eq l version_2.magic then version.Two else version.One) (take-append-le 8 bytes rest inside)
