-- Bytes from which a filter is read are its file.
use Rattle.std.proofs.Common.{◌≡◌, ◌∙◌, ℕ, ◌+◌, ◌<◌, ◌≤◌, ◌^◌, List, ◌∷◌, ◌++◌, drop, ap, sym, subst, arith, Ok, Err, Result, w32}
use Rattle.std.specs.Cmp.Lexicographic.{bytes_decides}
use Rattle.std.specs.Int.{to_le_bytes, w8}
use Rattle.std.specs.Result.{result_map_both}
use Rattle.cm_bits.specs.Bound.{AllBelow}
use Rattle.cm_bits.specs.Fault.{bytes_number, field_cells}
use Rattle.cm_dump_images.specs.BackLaws.{fields_read, image_back}
use Rattle.cm_dump_images.specs.Images.{fields_at}
use Rattle.cm_dump_items.specs.BackLaws.{Small, Stands, end_read, field_read, last_item, small_bytes, small_item, stands, zero_read}
use Rattle.cm_dump_items.specs.Reading.{end_at, field_at, item_at, zeros_at}
use Rattle.cm_dump_items.specs.StepLaws.{if_ok, ok_err, ok_same, step}
use Rattle.cm_dump_items.specs.WidthLaws.{of_four, of_one}
use Rattle.cm_dump_items.specs.declared.fault.LoadFault.{LoadFault}
use Rattle.cm_filter.specs.Filters.{Filter, IsFingerprint}
use Rattle.cm_filter.specs.declared.limits.TheConstants.{MAX_FINGERPRINT, MIN_FINGERPRINT}
use Rattle.cm_spec.specs.Bdz.{bdz_size}
use Rattle.cm_spec.specs.Image.{fields_len, width_of}
use Rattle.cm_spec.specs.Rule.{IsRatio}
use Rattle.cm_spec.specs.declared.limits.TheConstants.{MAX_KEYS}
use Rattle.cm_filter_file.specs.FilterFiles.{IsFilter, cells_at, fault_named, filter_at, filter_bytes, filter_in, filter_magic, header_at, header_bytes, magic_at}
use Rattle.cm_filter_file.specs.declared.header.Header.{Header}
use Rattle.cm_filter_file.proofs.SpellingLemmas.{byte_of, header_parts, numbers}

magic_read : (bytes : List ℕ) (x : Unit {0}) → magic_at bytes ≡ Ok x → Stands bytes 0 8 filter_magic
unfolding magic_at
magic_read bytes x is =
    let s = step (item_at bytes 0 8) _ x is in
    let same : s.value ≡ filter_magic = (bytes_decides s.value filter_magic).0 (if_ok _ _ _ _ s.next).0 in
    subst (λ (xs : List ℕ). Stands bytes 0 8 xs) same (stands bytes 0 8 s.value s.was)

zeros_read : (bytes : List ℕ) (x : Unit {0}) → Small bytes → zeros_at bytes 9 3 ≡ Ok x → drop 9 bytes ≡ 0 ∷ 0 ∷ 0 ∷ drop 12 bytes
unfolding zeros_at
zeros_read bytes x small is =
    let a = step (field_at w8 bytes 9 0 0) _ x is in
    let b = step (field_at w8 bytes 10 0 0) _ x a.next in
    let c = step (field_at w8 bytes 11 0 0) _ x b.next in
    let last : drop 10 bytes ≡ 0 ∷ 0 ∷ drop 12 bytes = (zero_read bytes 10 b.value small b.was).cut ∙ ap (λ (l : List ℕ). 0 ∷ l) (zero_read bytes 11 c.value small c.was).cut in
    (zero_read bytes 9 a.value small a.was).cut ∙ ap (λ (l : List ℕ). 0 ∷ l) last

-- a filter of a header, with these cells
abbrev with_cells : Header → List ℕ → Filter
with_cells h cells = record { keys = h.keys; ratio = h.ratio; seed = h.seed; bits = h.w; cells = cells }

record ReadsHeader (bytes : List ℕ) (h : Header) : Type 0 where
  bits : IsFingerprint h.w
  keys : (1 ≤ h.keys) × (h.keys ≤ MAX_KEYS)
  ratio : IsRatio h.ratio
  seed : h.seed < 2 ^ 32
  begins : (cells : List ℕ) → bytes ≡ header_bytes (with_cells h cells) ++ drop 24 bytes

-- the items of a header, one after another
header_is : (bytes : List ℕ) (h : Header) (cells : List ℕ) → h.w ≤ 16 → Stands bytes 0 8 filter_magic → Stands bytes 8 1 (to_le_bytes w8 h.w) → drop 9 bytes ≡ 0 ∷ 0 ∷ 0 ∷ drop 12 bytes → Stands bytes 12 4 (to_le_bytes w32 h.keys) → Stands bytes 16 4 (to_le_bytes w32 h.ratio) → Stands bytes 20 4 (to_le_bytes w32 h.seed)
    → bytes ≡ header_bytes (with_cells h cells) ++ drop 24 bytes
header_is bytes h cells few begun bits zeros k r s =
    let last : drop 16 bytes ≡ to_le_bytes w32 h.ratio ++ (to_le_bytes w32 h.seed ++ drop 24 bytes) = r.cut ∙ ap (λ (l : List ℕ). to_le_bytes w32 h.ratio ++ l) s.cut in
    let three : drop 12 bytes ≡ numbers (with_cells h cells) (drop 24 bytes) = k.cut ∙ ap (λ (l : List ℕ). to_le_bytes w32 h.keys ++ l) last in
    let after : drop 8 bytes ≡ h.w ∷ 0 ∷ 0 ∷ 0 ∷ numbers (with_cells h cells) (drop 24 bytes) =
    bits.cut ∙ ap (λ (l : List ℕ). l ++ drop 9 bytes) (byte_of h.w few) ∙ ap (λ (l : List ℕ). h.w ∷ l) (zeros ∙ ap (λ (l : List ℕ). 0 ∷ 0 ∷ 0 ∷ l) three) in
    begun.cut ∙ ap (λ (l : List ℕ). filter_magic ++ l) after ∙ sym (header_parts (with_cells h cells) (drop 24 bytes))

header_read : (bytes : List ℕ) (h : Header) → Small bytes → header_at bytes ≡ Ok h → ReadsHeader bytes h
unfolding header_at
header_read bytes h small is =
    let m = step (magic_at bytes) _ h is in
    let w = step (field_at w8 bytes 8 MIN_FINGERPRINT MAX_FINGERPRINT) _ h m.next in
    let z = step (zeros_at bytes 9 3) _ h w.next in
    let a = step (field_at w32 bytes 12 1 MAX_KEYS) _ h z.next in
    let b = step (field_at w32 bytes 16 1000000 10000000) _ h a.next in
    let c = step (field_at w32 bytes 20 0 4294967295) _ h b.next in
    let bits = field_read w8 of_one bytes 8 MIN_FINGERPRINT MAX_FINGERPRINT w.value small w.was in
    let keys = field_read w32 of_four bytes 12 1 MAX_KEYS a.value small a.was in
    let ratio = field_read w32 of_four bytes 16 1000000 10000000 b.value small b.was in
    let seed = field_read w32 of_four bytes 20 0 4294967295 c.value small c.was in
    let h' : Header = record { w = w.value; keys = a.value; ratio = b.value; seed = c.value } in
    let made : ReadsHeader bytes h' = record {
      bits = (bits.above, bits.below);
      keys = (keys.above, keys.below);
      ratio = (ratio.above, ratio.below);
      seed = omega (arith, seed.below);
      begins = λ cells. header_is bytes h' cells bits.below (magic_read bytes m.value m.was) bits.there (zeros_read bytes z.value small z.was) keys.there ratio.there seed.there;
    } in
    subst (λ (x : Header). ReadsHeader bytes x) (ok_same c.next) made

-- the bytes are the file of a filter
record IsFileOf (bytes : List ℕ) (f : Filter) : Type 0 where
  file : filter_bytes f ≡ bytes
  valid : IsFilter f

cells_read : (bytes : List ℕ) (h : Header) (f : Filter) → Small bytes → ReadsHeader bytes h → cells_at bytes h ≡ Ok f → IsFileOf bytes f
unfolding cells_at filter_bytes
cells_read bytes h f small heading is =
    let n : ℕ = bdz_size h.keys h.ratio in
    let len : ℕ = fields_len (width_of (2 ^ h.w)) n in
    let b = step (fields_at bytes 24 n (2 ^ h.w)) _ f is in
    let c = step (end_at bytes (24 + len)) _ f b.next in
    let read = image_back bytes 24 len _ _ b.value b.was in
    let image = fields_read (2 ^ h.w) n b.value (small_item bytes 24 len b.value small read.there) read.there.long read.none in
    let cells : List ℕ = field_cells (width_of (2 ^ h.w)) n (bytes_number b.value) in
    let rest : drop 24 bytes ≡ b.value = last_item bytes 24 (24 + len) b.value read.there.cut (end_read bytes _ c.value c.was) in
    let made : IsFileOf bytes (with_cells h cells) = record {
      file = sym (heading.begins cells ∙ ap (λ (l : List ℕ). header_bytes (with_cells h cells) ++ l) (rest ∙ sym image.image));
      valid = record { keys = heading.keys; ratio = heading.ratio; seed = heading.seed; bits = heading.bits; size = image.long; below = image.below };
    } in
    subst (λ (x : Filter). IsFileOf bytes x) (ok_same c.next) made

in_at : (r : Result Filter LoadFault) (f : Filter) → result_map_both (λ (g : Filter). g) fault_named r ≡ Ok f → r ≡ Ok f
in_at (Ok g) f is = ap Ok (ok_same is)
in_at (Err e) f is = absurd (ok_err f (fault_named e) (sym is))

pub file_of : (bytes : List ℕ) (f : Filter) → AllBelow 256 bytes → filter_in bytes ≡ Ok f → (filter_bytes f ≡ bytes) × IsFilter f
unfolding filter_at
file_of bytes f below is =
    let small = small_bytes bytes below in
    let s = step (header_at bytes) _ f (in_at (filter_at bytes) f is) in
    let read = cells_read bytes s.value f small (header_read bytes s.value small s.was) s.next in
    (read.file, read.valid)
