-- The store that is read from a store's file.
use Rattle.std.proofs.Common.{◌≡◌, ◌∙◌, ℕ, ◌+◌, ◌*◌, ◌<◌, ◌≤◌, ◌^◌, List, [], ◌++◌, length, ap, sym, arith, refl, length-append, append_assoc, append-nil, Ok, None, w32}
use Rattle.std.specs.Int.{to_le_bytes}
use Rattle.std.proofs.lemmas.List.FromFn.{length-map-range_with_len}
use Rattle.cm_bits.specs.Fault.{plain_fault}
use Rattle.cm_bits.specs.PlainLaws.{plain_fault-image}
use Rattle.cm_dump.specs.Spelling.{spelling_of}
use Rattle.cm_dump_items.specs.ItemLaws.{item_there}
use Rattle.cm_dump_items.specs.Reading.{end_at, item_at}
use Rattle.cm_dump_items.specs.ThereLaws.{end_there, number_there}
use Rattle.cm_func.specs.declared.function.Func.TheVariants as func
use Rattle.cm_spec.specs.Image.{plain_byte}
use Rattle.cm_spec.specs.Lists.{list_of}
use Rattle.cm_store.specs.Stores.{IsStore, Store}
use Rattle.cm_store_file.specs.Headers.{header_at, header_bytes, magic_at, store_magic}
use Rattle.cm_store_file.specs.Steps.{lifted}
use Rattle.cm_store_file.specs.StoreFiles.{index_at, index_bytes, places_at, places_bytes, places_in, store_bytes, store_in, store_unless}
use Rattle.cm_store_file.specs.declared.header.Header.{Header}
use Rattle.cm_store_file.proofs.PlaceLemmas.{places_known}
use Rattle.cm_store_file.proofs.StepLemmas.{ReadsParts, store_known}
use Rattle.cm_store_records.specs.declared.limits.TheConstants.{MAX_RECORD_BYTES}

-- ---- the header, and any bytes after it

pub header_parts : (index records : ℕ) (rest : List ℕ) → header_bytes index records ++ rest ≡ store_magic ++ (to_le_bytes w32 index ++ (to_le_bytes w32 records ++ rest))
unfolding header_bytes
header_parts index records rest = refl

pub length-header : (index records : ℕ) → length (header_bytes index records) ≡ 16
unfolding header_bytes
length-header index records = refl

magic_there : (bytes after : List ℕ) → bytes ≡ store_magic ++ after → magic_at bytes ≡ Ok tt
unfolding magic_at
magic_there bytes after is = rw (item_there bytes [] store_magic after 0 8 is refl refl) refl

header_there : (index records : ℕ) (rest : List ℕ) → index < 2 ^ 32 → (1 ≤ records) × (records ≤ MAX_RECORD_BYTES) → header_at (header_bytes index records ++ rest) ≡ Ok (record { index = index; records = records })
unfolding header_at
header_there index records rest few within =
    let i = to_le_bytes w32 index in
    let r = to_le_bytes w32 records in
    let bytes = store_magic ++ (i ++ (r ++ rest)) in
    let begun : magic_at bytes ≡ Ok tt = magic_there bytes (i ++ (r ++ rest)) refl in
    let index_there = number_there bytes 8 0 4294967295 index (item_there bytes store_magic i (r ++ rest) 8 4 refl refl refl) few (omega arith) (omega (arith, few)) in
    let records_there = number_there bytes 12 1 MAX_RECORD_BYTES records (item_there bytes (store_magic ++ i) r rest 12 4 (sym (append_assoc store_magic i (r ++ rest))) refl refl) (omega (arith, within.1)) within.0 within.1 in
    rw (header_parts index records rest, begun, index_there, records_there) refl

-- ---- the parts of a file

abbrev pub header_of : Store → Header
header_of s = record { index = length (index_bytes s.index); records = length s.bytes }

abbrev first : Store → List ℕ
first s = header_bytes (length (index_bytes s.index)) (length s.bytes)

-- the bytes before the places, and before the records
abbrev before : Store → List ℕ
before s = first s ++ index_bytes s.index

abbrev most : Store → List ℕ
most s = before s ++ places_bytes s.places

file_header : (s : Store) → IsStore s → length (index_bytes s.index) < 2 ^ 32 → header_at (store_bytes s) ≡ Ok (header_of s)
unfolding store_bytes
file_header s is few = header_there (length (index_bytes s.index)) (length s.bytes) (index_bytes s.index ++ (places_bytes s.places ++ s.bytes)) few is.size

index_item : (s : Store) → item_at (store_bytes s) 16 (length (index_bytes s.index)) ≡ Ok (index_bytes s.index)
unfolding store_bytes
index_item s = item_there (store_bytes s) (first s) (index_bytes s.index) (places_bytes s.places ++ s.bytes) 16 _ refl (length-header _ _) refl

file_index : (s : Store) → spelling_of (index_bytes s.index) ≡ Ok (func.Bdz s.index) → index_at (store_bytes s) (length (index_bytes s.index)) ≡ Ok s.index
unfolding index_at
file_index s spelled = rw (index_item s, spelled) refl

length-before : (s : Store) → length (before s) ≡ 16 + length (index_bytes s.index)
length-before s = length-append (first s) (index_bytes s.index) ∙ ap (λ (k : ℕ). k + length (index_bytes s.index)) (length-header _ _)

length-places : (s : Store) → IsStore s → length (places_bytes s.places) ≡ 4 * s.index.keys
length-places s is = length-map-range_with_len (plain_byte s.places) 0 (4 * length s.places) ∙ ap (λ (k : ℕ). 4 * k) is.places

length-most : (s : Store) → IsStore s → length (most s) ≡ 16 + length (index_bytes s.index) + 4 * s.index.keys
length-most s is = omega (arith, length-append (before s) (places_bytes s.places), length-before s, length-places s is)

places_item : (s : Store) → IsStore s → item_at (store_bytes s) (16 + length (index_bytes s.index)) (4 * s.index.keys) ≡ Ok (places_bytes s.places)
unfolding store_bytes
places_item s is = item_there (store_bytes s) (before s) (places_bytes s.places) s.bytes _ _ (sym (append_assoc (first s) (index_bytes s.index) (places_bytes s.places ++ s.bytes))) (length-before s) (length-places s is)

places_sound : (s : Store) → IsStore s → places_in s.index.keys (length s.bytes) (places_bytes s.places) ≡ Ok s.places
places_sound s is =
    let image : places_bytes s.places ≡ list_of (plain_byte s.places) (4 * s.index.keys) = ap (λ (k : ℕ). list_of (plain_byte s.places) (4 * k)) is.places in
    let none : plain_fault s.index.keys (length s.bytes) (places_bytes s.places) ≡ None = rw (← is.places) (plain_fault-image (length s.bytes) s.places (omega (arith, is.size.1)) is.below) in
    places_known s.index.keys (length s.bytes) s.places (places_bytes s.places) is.places (λ k l. omega (arith, is.below k l, is.size.1)) image none

file_places : (s : Store) → IsStore s → places_at (store_bytes s) (16 + length (index_bytes s.index)) s.index.keys (length s.bytes) ≡ Ok s.places
unfolding places_at
file_places s is = rw (places_item s is) (places_sound s is)

-- the file ends with the records
file_parts : (s : Store) → store_bytes s ≡ most s ++ s.bytes
unfolding store_bytes
file_parts s = sym (append_assoc (first s) (index_bytes s.index) (places_bytes s.places ++ s.bytes)) ∙ sym (append_assoc (before s) (places_bytes s.places) s.bytes)

file_records : (s : Store) → IsStore s → item_at (store_bytes s) (16 + length (index_bytes s.index) + 4 * s.index.keys) (length s.bytes) ≡ Ok s.bytes
file_records s is = item_there (store_bytes s) (most s) s.bytes [] _ _ (file_parts s ∙ ap (λ (l : List ℕ). most s ++ l) (sym (append-nil s.bytes))) (length-most s is) refl

file_end : (s : Store) → IsStore s → end_at (store_bytes s) (16 + length (index_bytes s.index) + 4 * s.index.keys + length s.bytes) ≡ Ok tt
file_end s is = end_there (store_bytes s) _ (ap length (file_parts s) ∙ length-append (most s) s.bytes ∙ ap (λ (k : ℕ). k + length s.bytes) (length-most s is))

file_sound : (s : Store) → IsStore s → store_unless s ≡ Ok s
file_sound s is = rw is.sound refl

-- ---- the file

parts_there : (s : Store) → IsStore s → ReadsParts (store_bytes s) (header_of s) s.index s
parts_there s is = record {
  places = s.places;
  records = s.bytes;
  are_places = file_places s is;
  are_records = rw (file_records s is) refl;
  sound = file_sound s is;
}

pub store_back : (s : Store) → IsStore s → length (index_bytes s.index) < 2 ^ 32 → spelling_of (index_bytes s.index) ≡ Ok (func.Bdz s.index) → store_in (store_bytes s) ≡ Ok s
unfolding store_in
store_back s is few spelled =
    let ended : lifted (end_at (store_bytes s) (16 + length (index_bytes s.index) + 4 * s.index.keys + length s.bytes)) ≡ Ok tt = rw (file_end s is) refl in
    rw (file_header s is few, file_index s spelled, store_known (store_bytes s) (header_of s) s.index s (parts_there s is) ended) refl
