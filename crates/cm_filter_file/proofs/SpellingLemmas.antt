-- The filter that is read from a filter's file.
use Rattle.std.proofs.Common.{◌≡◌, ◌∙◌, ℕ, ◌+◌, ◌%◌, ◌<◌, ◌≤◌, ◌^◌, List, [], ◌∷◌, ◌++◌, length, ap, sym, arith, refl, length-append, append_assoc, append-nil, Ok, w32}
use Rattle.std.specs.Int.{to_le_bytes, w8}
use Rattle.cm_dump_images.specs.ImageLaws.{fields_same, fields_sound, image_there, length-fields_image}
use Rattle.cm_dump_images.specs.Images.{fields_at}
use Rattle.cm_dump_items.specs.ItemLaws.{item_there}
use Rattle.cm_dump_items.specs.Reading.{end_at, field_at, zeros_at}
use Rattle.cm_dump_items.specs.StepLaws.{ok_same}
use Rattle.cm_dump_items.specs.ThereLaws.{end_there, field_there, number_there, zero_there}
use Rattle.cm_dump_items.specs.WidthLaws.{of_one}
use Rattle.cm_filter.specs.Filters.{Filter, IsFingerprint}
use Rattle.cm_filter.specs.declared.limits.TheConstants.{MAX_FINGERPRINT, MIN_FINGERPRINT}
use Rattle.cm_spec.specs.Bdz.{bdz_size}
use Rattle.cm_spec.specs.Dump.{fields_image}
use Rattle.cm_spec.specs.Image.{fields_len, width_of}
use Rattle.cm_spec.specs.declared.limits.TheConstants.{MAX_KEYS}
use Rattle.cm_filter_file.specs.FilterFiles.{IsFilter, cells_at, filter_at, filter_bytes, filter_in, filter_magic, header_at, header_bytes, magic_at}
use Rattle.cm_filter_file.specs.declared.header.Header.{Header}
use Rattle.cm_filter_file.proofs.CellLemmas.{cells_known}
use Rattle.cm_filter.specs.FilterLaws.{bound_most}

-- ---- the header, and any bytes after it

-- the magic, and the bits of a fingerprint with the zeros
abbrev pub head_bytes : ℕ → List ℕ
head_bytes w = filter_magic ++ w ∷ 0 ∷ 0 ∷ 0 ∷ []

-- the three numbers after them
abbrev pub numbers : Filter → List ℕ → List ℕ
numbers f rest = to_le_bytes w32 f.keys ++ (to_le_bytes w32 f.ratio ++ (to_le_bytes w32 f.seed ++ rest))

pub header_parts : (f : Filter) (rest : List ℕ) → header_bytes f ++ rest ≡ head_bytes f.bits ++ numbers f rest
unfolding header_bytes
header_parts f rest = refl

pub length-header : (f : Filter) → length (header_bytes f) ≡ 24
unfolding header_bytes
length-header f = refl

magic_there : (bytes after : List ℕ) → bytes ≡ filter_magic ++ after → magic_at bytes ≡ Ok tt
unfolding magic_at
magic_there bytes after is = rw (item_there bytes [] filter_magic after 0 8 is refl refl) refl

pub byte_of : (w : ℕ) → w ≤ 16 → to_le_bytes w8 w ≡ w ∷ []
byte_of w few = let same : w % 256 ≡ w = omega (arith, few) in ap (λ (x : ℕ). x ∷ []) same

bits_there : (w : ℕ) (after : List ℕ) → IsFingerprint w → field_at w8 (head_bytes w ++ after) 8 MIN_FINGERPRINT MAX_FINGERPRINT ≡ Ok w
bits_there w after is =
    let few : w < 256 = omega (arith, is.1) in
    let same : to_le_bytes w8 w ≡ w ∷ [] = byte_of w is.1 in
    field_there w8 of_one (head_bytes w ++ after) 8 MIN_FINGERPRINT MAX_FINGERPRINT w (item_there (head_bytes w ++ after) filter_magic (w ∷ []) (0 ∷ 0 ∷ 0 ∷ after) 8 1 refl refl refl ∙ ap Ok (sym same)) few is.0 is.1

zeros_there : (w : ℕ) (after : List ℕ) → zeros_at (head_bytes w ++ after) 9 3 ≡ Ok tt
unfolding zeros_at
zeros_there w after =
    let bytes : List ℕ = head_bytes w ++ after in
    let before : List ℕ = filter_magic ++ w ∷ [] in
    let first = zero_there bytes 9 (item_there bytes before (0 ∷ []) (0 ∷ 0 ∷ after) 9 1 refl refl refl) in
    let second = zero_there bytes 10 (item_there bytes (before ++ 0 ∷ []) (0 ∷ []) (0 ∷ after) 10 1 refl refl refl) in
    let third = zero_there bytes 11 (item_there bytes (before ++ 0 ∷ 0 ∷ []) (0 ∷ []) after 11 1 refl refl refl) in
    rw (first, second, third) refl

abbrev pub header_of : Filter → Header
header_of f = record { w = f.bits; keys = f.keys; ratio = f.ratio; seed = f.seed }

header_there : (f : Filter) (rest : List ℕ) → IsFilter f → header_at (header_bytes f ++ rest) ≡ Ok (header_of f)
unfolding header_at
header_there f rest is =
    let k = to_le_bytes w32 f.keys in
    let r = to_le_bytes w32 f.ratio in
    let s = to_le_bytes w32 f.seed in
    let before = head_bytes f.bits in
    let bytes = before ++ (k ++ (r ++ (s ++ rest))) in
    let begun : magic_at bytes ≡ Ok tt = magic_there bytes ((f.bits ∷ 0 ∷ 0 ∷ 0 ∷ []) ++ (k ++ (r ++ (s ++ rest)))) refl in
    let bits = bits_there f.bits (k ++ (r ++ (s ++ rest))) is.bits in
    let zeros = zeros_there f.bits (k ++ (r ++ (s ++ rest))) in
    let keys_there = number_there bytes 12 1 MAX_KEYS f.keys (item_there bytes before k (r ++ (s ++ rest)) 12 4 refl refl refl) (omega (arith, is.keys.1)) is.keys.0 is.keys.1 in
    let ratio_there = number_there bytes 16 1000000 10000000 f.ratio (item_there bytes (before ++ k) r (s ++ rest) 16 4 (sym (append_assoc before k (r ++ (s ++ rest)))) refl refl) (omega (arith, is.ratio.1)) is.ratio.0 is.ratio.1 in
    let seed_there = number_there bytes 20 0 4294967295 f.seed (item_there bytes (before ++ (k ++ r)) s rest 20 4 (sym (append_assoc before (k ++ r) (s ++ rest))) refl refl) is.seed (omega arith) (omega (arith, is.seed)) in
    rw (header_parts f rest, begun, bits, zeros, keys_there, ratio_there, seed_there) refl

-- ---- the cells

cells_image : (f : Filter) → IsFilter f → fields_at (filter_bytes f) 24 (bdz_size f.keys f.ratio) (2 ^ f.bits) ≡ Ok (fields_image (2 ^ f.bits) f.cells)
unfolding filter_bytes
cells_image f is =
    let few : 2 ^ f.bits ≤ MAX_KEYS = omega (arith, bound_most f.bits is.bits) in
    image_there (filter_bytes f) (header_bytes f) (fields_image (2 ^ f.bits) f.cells) [] 24 _ _ _
    (ap (λ (l : List ℕ). header_bytes f ++ l) (sym (append-nil (fields_image (2 ^ f.bits) f.cells))))
    (length-header f)
    (length-fields_image (2 ^ f.bits) f.cells ∙ ap (fields_len (width_of (2 ^ f.bits))) is.size)
    (fields_sound (2 ^ f.bits) (bdz_size f.keys f.ratio) f.cells few is.size is.below)

filter_len : (f : Filter) → length (filter_bytes f) ≡ 24 + fields_len (width_of (2 ^ f.bits)) (length f.cells)
unfolding filter_bytes
filter_len f = omega (arith, length-append (header_bytes f) (fields_image (2 ^ f.bits) f.cells), length-header f, length-fields_image (2 ^ f.bits) f.cells)

cells_end : (f : Filter) → IsFilter f → end_at (filter_bytes f) (24 + fields_len (width_of (2 ^ f.bits)) (bdz_size f.keys f.ratio)) ≡ Ok tt
cells_end f is = end_there (filter_bytes f) _ (filter_len f ∙ ap (λ (k : ℕ). 24 + fields_len (width_of (2 ^ f.bits)) k) is.size)

cells_there : (f : Filter) → IsFilter f → cells_at (filter_bytes f) (header_of f) ≡ Ok f
cells_there f is =
    cells_known (filter_bytes f) (header_of f) f.cells f is.bits is.size is.below (cells_image f is ∙ ap Ok (fields_same (2 ^ f.bits) (bdz_size f.keys f.ratio) f.cells is.size)) (cells_end f is)
    (record { keys = refl; ratio = refl; seed = refl; bits = refl; cells = refl })

-- ---- the file

file_header : (f : Filter) → IsFilter f → header_at (filter_bytes f) ≡ Ok (header_of f)
unfolding filter_bytes
file_header f is = header_there f (fields_image (2 ^ f.bits) f.cells) is

filter_there : (f : Filter) → IsFilter f → filter_at (filter_bytes f) ≡ Ok f
unfolding filter_at
filter_there f is = rw (file_header f is, cells_there f is) refl

pub filter_back : (f : Filter) → IsFilter f → filter_in (filter_bytes f) ≡ Ok f
filter_back f is = rw (filter_there f is) refl

-- equal files come from equal filters
pub same_from_file : (f g : Filter) → IsFilter f → IsFilter g → filter_bytes f ≡ filter_bytes g → f ≡ g
same_from_file f g is other same = ok_same (sym (filter_back f is) ∙ ap filter_in same ∙ filter_back g other)
