-- How long dumps are.
use Rattle.std.proofs.Common.{◌≡◌, ◌∙◌, ℕ, ◌+◌, ◌*◌, List, [], ◌++◌, length, ap, sym, arith, length-append, append_assoc, append-nil, w32}
use Rattle.std.specs.Int.{to_le_bytes}
use Rattle.std.proofs.lemmas.List.FromFn.{length-map-range_with_len}
use Rattle.cm_bdz.specs.Functions.{Bdz, BdzPh}
use Rattle.cm_brz_func.specs.Functions.{Brz}
use Rattle.cm_dump_images.specs.ImageLaws.{length-fields_image}
use Rattle.cm_rank.specs.Ranks.{sampled}
use Rattle.cm_spec.specs.Chm.{Chm}
use Rattle.cm_spec.specs.Dump.{fields_image}
use Rattle.cm_dump.specs.Dumps.{header, kind_bytes, chm_dump, packed_image, ranks_image, buckets_image, bdz_dump, bdz_ph_dump, brz_dump}
use Rattle.cm_spec.specs.Image.{width_of, fields_len, packed_len}
use Rattle.cm_dump.specs.declared.versions.Version.TheVariants as version
use Rattle.cm_dump.specs.Forms.{Form, version_2}
use Rattle.cm_dump.proofs.FormLemmas.{IsForm, form_facts}
use Rattle.cm_dump.proofs.RankLemmas.{length-ranks_image}

-- the parts of a header, and any bytes after it
pub header_parts : (v : Form) (algorithm b keys ratio seed : ℕ) (rest : List ℕ) → header v algorithm b keys ratio seed ++ rest ≡ (v.magic ++ kind_bytes v algorithm b) ++ (to_le_bytes w32 keys ++ (to_le_bytes w32 ratio ++ (to_le_bytes w32 seed ++ rest)))
unfolding header
header_parts v algorithm b keys ratio seed rest =
    let kind : List ℕ = kind_bytes v algorithm b in
    let numbers : List ℕ = to_le_bytes w32 keys ++ (to_le_bytes w32 ratio ++ to_le_bytes w32 seed) in
    append_assoc v.magic (kind ++ numbers) rest ∙ ap (λ (l : List ℕ). v.magic ++ l) (append_assoc kind numbers rest) ∙ sym (append_assoc v.magic kind (numbers ++ rest))

pub length-header : (v : Form) → IsForm v → (algorithm b keys ratio seed : ℕ) → length (header v algorithm b keys ratio seed) ≡ 24
length-header v known algorithm b keys ratio seed =
    let kind : List ℕ = kind_bytes v algorithm b in
    let numbers : List ℕ = to_le_bytes w32 keys ++ (to_le_bytes w32 ratio ++ to_le_bytes w32 seed) in
    let front : length (v.magic ++ kind) ≡ 12 = length-append v.magic kind ∙ omega (arith, known.magic, known.kind algorithm b) in
    let whole : length (header v algorithm b keys ratio seed ++ []) ≡ length (v.magic ++ kind) + 12 = ap length (header_parts v algorithm b keys ratio seed []) ∙ length-append (v.magic ++ kind) (numbers ++ []) in
    ap length (sym (append-nil (header v algorithm b keys ratio seed))) ∙ whole ∙ omega (arith, front)

pub length-packed_image : (d p : ℕ) (cells : List ℕ) → length (packed_image d p cells) ≡ packed_len p (length cells)
unfolding packed_image
length-packed_image d p cells = length-map-range_with_len _ 0 _

pub chm_dump_len : (v : Form) → IsForm v → (f : Chm) → length (chm_dump v f) ≡ 24 + fields_len (width_of f.keys) (length f.cells)
unfolding chm_dump
chm_dump_len v known f =
    omega (arith, length-append (header v 1 0 f.keys f.ratio f.seed) (fields_image f.keys f.cells), length-header v known 1 0 f.keys f.ratio f.seed, length-fields_image f.keys f.cells)

pub bdz_dump_len : (v : Form) → IsForm v → (f : Bdz) → length (bdz_dump v f) ≡ 24 + packed_len 4 (length f.cells) + 4 * length (sampled 3 f.shift f.cells)
unfolding bdz_dump
bdz_dump_len v known f =
    omega (
      arith,
      length-append (header v 2 f.shift f.keys f.ratio f.seed) (packed_image 4 4 f.cells ++ ranks_image (sampled 3 f.shift f.cells)),
      length-header v known 2 f.shift f.keys f.ratio f.seed,
      length-append (packed_image 4 4 f.cells) (ranks_image (sampled 3 f.shift f.cells)),
      length-packed_image 4 4 f.cells,
      length-ranks_image (sampled 3 f.shift f.cells),
    )

pub bdz_ph_dump_len : (v : Form) → IsForm v → (f : BdzPh) → length (bdz_ph_dump v f) ≡ 24 + packed_len 5 (length f.cells)
unfolding bdz_ph_dump
bdz_ph_dump_len v known f =
    omega (arith, length-append (header v 3 0 f.keys f.ratio f.seed) (packed_image 3 5 f.cells), length-header v known 3 0 f.keys f.ratio f.seed, length-packed_image 3 5 f.cells)

pub brz_dump_len : (v : Form) → IsForm v → (f : Brz) → length (brz_dump v f) ≡ 24 + length (buckets_image v f.buckets)
unfolding brz_dump
brz_dump_len v known f = omega (arith, length-append (header v 4 f.width f.keys f.ratio f.split) (buckets_image v f.buckets), length-header v known 4 f.width f.keys f.ratio f.split)

-- the same of the dumps that are written
pub chm_written_len : (f : Chm) → length (chm_dump version_2 f) ≡ 24 + fields_len (width_of f.keys) (length f.cells)
chm_written_len f = chm_dump_len version_2 (form_facts version.Two) f

pub bdz_written_len : (f : Bdz) → length (bdz_dump version_2 f) ≡ 24 + packed_len 4 (length f.cells) + 4 * length (sampled 3 f.shift f.cells)
bdz_written_len f = bdz_dump_len version_2 (form_facts version.Two) f

pub bdz_ph_written_len : (f : BdzPh) → length (bdz_ph_dump version_2 f) ≡ 24 + packed_len 5 (length f.cells)
bdz_ph_written_len f = bdz_ph_dump_len version_2 (form_facts version.Two) f

pub brz_written_len : (f : Brz) → length (brz_dump version_2 f) ≡ 24 + length (buckets_image version_2 f.buckets)
brz_written_len f = brz_dump_len version_2 (form_facts version.Two) f
