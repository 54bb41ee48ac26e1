-- Bytes from which a store is read are its file.
use Rattle.std.proofs.Common.{◌≡◌, ◌∙◌, ℕ, ◌+◌, ◌*◌, ◌≤◌, List, ◌++◌, length, drop, ap, sym, subst, arith, refl, Option, Some, None, Result, Ok, Err, w32}
use Rattle.std.specs.Cmp.Lexicographic.{bytes_decides}
use Rattle.std.specs.Int.{to_le_bytes}
use Rattle.cm_bdz.specs.Functions.{Bdz, IsBdz}
use Rattle.cm_bits.specs.Bound.{AllBelow}
use Rattle.cm_dump.specs.Dumps.{dump_by}
use Rattle.cm_dump.specs.Forms.{form_of, version_of}
use Rattle.cm_dump.specs.Spelling.{spelling_of}
use Rattle.cm_dump.specs.declared.versions.Version.TheVariants as version
use Rattle.cm_dump_items.specs.BackLaws.{Small, Stands, end_read, field_read, last_item, small_bytes, small_item, stands}
use Rattle.cm_dump_items.specs.Reading.{end_at, field_at, item_at}
use Rattle.cm_dump_items.specs.StepLaws as items
use Rattle.cm_dump_items.specs.WidthLaws.{of_four}
use Rattle.cm_dump_items.specs.declared.fault.LoadFault.{LoadFault}
use Rattle.cm_func.specs.Functions.{IsFunction}
use Rattle.cm_func.specs.declared.function.Func.{Func}
use Rattle.cm_func.specs.declared.function.Func.TheVariants as func
use Rattle.cm_store.specs.Stores.{IsStore, Store, bad_record}
use Rattle.cm_store_file.specs.Headers.{header_at, header_bytes, magic_at, store_magic}
use Rattle.cm_store_file.specs.Steps.{lifted}
use Rattle.cm_store_file.specs.StoreFiles.{index_at, index_bytes, index_unless, places_at, places_bytes, store_at, store_bytes, store_in, store_or, store_unless}
use Rattle.cm_store_file.specs.declared.fault.StoreLoad.TheVariants.{BadIndex, BadRecord}
use Rattle.cm_store_file.specs.declared.header.Header.{Header}
use Rattle.cm_store_file.proofs.IndexLemmas.{version_first}
use Rattle.cm_store_file.proofs.PlaceLemmas.{places_read}
use Rattle.cm_store_file.proofs.SpellingLemmas.{header_parts}
use Rattle.cm_store_file.proofs.StepLemmas.{lifted_ok, step}
use Rattle.cm_store_records.specs.declared.limits.TheConstants.{MAX_RECORD_BYTES}

-- ---- the header

magic_read : (bytes : List ℕ) (x : Unit {0}) → magic_at bytes ≡ Ok x → Stands bytes 0 8 store_magic
unfolding magic_at
magic_read bytes x is =
    let s = items.step (item_at bytes 0 8) _ x is in
    let same : s.value ≡ store_magic = (bytes_decides s.value store_magic).0 (items.if_ok _ _ _ _ s.next).0 in
    subst (λ (xs : List ℕ). Stands bytes 0 8 xs) same (stands bytes 0 8 s.value s.was)

record ReadsHeader (bytes : List ℕ) (h : Header) : Type 0 where
  records : (1 ≤ h.records) × (h.records ≤ MAX_RECORD_BYTES)
  begins : bytes ≡ header_bytes h.index h.records ++ drop 16 bytes

header_read : (bytes : List ℕ) (h : Header) → Small bytes → header_at bytes ≡ Ok h → ReadsHeader bytes h
unfolding header_at
header_read bytes h small is =
    let m = items.step (magic_at bytes) _ h is in
    let a = items.step (field_at w32 bytes 8 0 4294967295) _ h m.next in
    let b = items.step (field_at w32 bytes 12 1 MAX_RECORD_BYTES) _ h a.next in
    let index = field_read w32 of_four bytes 8 0 4294967295 a.value small a.was in
    let records = field_read w32 of_four bytes 12 1 MAX_RECORD_BYTES b.value small b.was in
    let begun = magic_read bytes m.value m.was in
    let after : drop 8 bytes ≡ to_le_bytes w32 a.value ++ (to_le_bytes w32 b.value ++ drop 16 bytes) = index.there.cut ∙ ap (λ (l : List ℕ). to_le_bytes w32 a.value ++ l) records.there.cut in
    let h' : Header = record { index = a.value; records = b.value } in
    let made : ReadsHeader bytes h' = record {
      records = (records.above, records.below);
      begins = begun.cut ∙ ap (λ (l : List ℕ). store_magic ++ l) after ∙ sym (header_parts a.value b.value (drop 16 bytes));
    } in
    subst (λ (x : Header). ReadsHeader bytes x) (items.ok_same b.next) made

-- ---- the index

index_is : (r : Result Func LoadFault) (index : Bdz) → index_unless r ≡ Ok index → r ≡ Ok (func.Bdz index)
index_is (Ok (func.Chm f)) index is = absurd (items.ok_err index BadIndex (sym is))
index_is (Ok (func.Bdz f)) index is = ap (λ (x : Bdz). Ok (func.Bdz x)) (items.ok_same is)
index_is (Ok (func.BdzPh f)) index is = absurd (items.ok_err index BadIndex (sym is))
index_is (Ok (func.Brz f)) index is = absurd (items.ok_err index BadIndex (sym is))
index_is (Err e) index is = absurd (items.ok_err index BadIndex (sym is))

record ReadsIndex (bytes : List ℕ) (len : ℕ) (index : Bdz) : Type 0 where
  item : List ℕ
  there : Stands bytes 16 len item
  spelled : spelling_of item ≡ Ok (func.Bdz index)

index_read : (bytes : List ℕ) (len : ℕ) (index : Bdz) → index_at bytes len ≡ Ok index → ReadsIndex bytes len index
unfolding index_at
index_read bytes len index is =
    let s = step (lifted (item_at bytes 16 len)) _ index is in
    record { item = s.value; there = stands bytes 16 len s.value (lifted_ok _ _ s.was); spelled = index_is _ index s.next }

-- ---- the places and the records

record PlacesThere (bytes : List ℕ) (at n bound : ℕ) (places : List ℕ) : Type 0 where
  there : Stands bytes at (4 * n) (places_bytes places)
  long : length places ≡ n
  below : AllBelow bound places

there_read : (bytes : List ℕ) (at n bound : ℕ) (places : List ℕ) → Small bytes → places_at bytes at n bound ≡ Ok places → PlacesThere bytes at n bound places
unfolding places_at
there_read bytes at n bound places small is =
    let s = step (lifted (item_at bytes at (4 * n))) _ places is in
    let there = stands bytes at (4 * n) s.value (lifted_ok _ _ s.was) in
    let read = places_read n bound s.value places (small_item bytes at (4 * n) s.value small there) there.long s.next in
    record { there = subst (λ (xs : List ℕ). Stands bytes at (4 * n) xs) (sym read.image_is) there; long = read.long; below = read.below }

store_is : (s t : Store) (o : Option ℕ) → store_or s o ≡ Ok t → (o ≡ None) × (s ≡ t)
store_is s t None is = (refl, items.ok_same is)
store_is s t (Some at) is = absurd (items.ok_err t (BadRecord at) (sym is))

-- a store is read with an index, and the bytes after the index are its places and its records
record ReadsStore (bytes : List ℕ) (h : Header) (index : Bdz) (s : Store) : Type 0 where
  index_same : s.index ≡ index
  size : length s.bytes ≡ h.records
  places : length s.places ≡ s.index.keys
  below : AllBelow (length s.bytes) s.places
  sound : bad_record s ≡ None
  after : drop (16 + h.index) bytes ≡ places_bytes s.places ++ s.bytes

store_read : (bytes : List ℕ) (h : Header) (index : Bdz) (s : Store) → Small bytes → store_at bytes h index ≡ Ok s → ReadsStore bytes h index s
unfolding store_at
store_read bytes h index s small is =
    let at : ℕ = 16 + h.index in
    let from : ℕ = 16 + h.index + 4 * index.keys in
    let p = step (places_at bytes at index.keys h.records) _ s is in
    let r = step (lifted (item_at bytes from h.records)) _ s p.next in
    let made : Store = record { index = index; places = p.value; bytes = r.value } in
    let u = step (store_unless made) _ s r.next in
    let e = step (lifted (end_at bytes (from + h.records))) _ s u.next in
    let placed = there_read bytes at index.keys h.records p.value small p.was in
    let there = stands bytes from h.records r.value (lifted_ok _ _ r.was) in
    let known = store_is made u.value (bad_record made) u.was in
    let last : drop from bytes ≡ r.value = last_item bytes from (from + h.records) r.value there.cut (end_read bytes _ e.value (lifted_ok _ _ e.was)) in
    let read : ReadsStore bytes h index made = record {
      index_same = refl;
      size = there.long;
      places = placed.long;
      below = subst (λ (k : ℕ). AllBelow k p.value) (sym there.long) placed.below;
      sound = known.0;
      after = placed.there.cut ∙ ap (λ (l : List ℕ). places_bytes p.value ++ l) last;
    } in
    subst (λ (x : Store). ReadsStore bytes h index x) (known.1 ∙ items.ok_same e.next) read

-- ---- the file

-- what bytes that spell an index are
abbrev pub AreDumps : Type 0
AreDumps = (bytes : List ℕ) (f : Func) → AllBelow 256 bytes → spelling_of bytes ≡ Ok f → (dump_by (form_of (version_of bytes)) f ≡ bytes) × IsFunction f

-- bytes are the file of a store, if their index is a dump of version 2
pub record IsFileOf (bytes : List ℕ) (s : Store) : Type 0 where
  pub valid : IsStore s
  pub index : IsBdz s.index
  pub file : version_of (drop 16 bytes) ≡ version.Two → store_bytes s ≡ bytes

whole_file : (bytes : List ℕ) (h : Header) (index : Bdz) (s : Store) → ReadsHeader bytes h → Stands bytes 16 h.index (index_bytes index) → ReadsStore bytes h index s → store_bytes s ≡ bytes
unfolding store_bytes
whole_file bytes h index s header there read =
    let same : index_bytes s.index ≡ index_bytes index = ap index_bytes read.index_same in
    let head : header_bytes (length (index_bytes s.index)) (length s.bytes) ≡ header_bytes h.index h.records = ap (λ (k : ℕ). header_bytes k (length s.bytes)) (ap length same ∙ there.long) ∙ ap (header_bytes h.index) read.size in
    let rest : index_bytes s.index ++ (places_bytes s.places ++ s.bytes) ≡ drop 16 bytes = ap (λ (l : List ℕ). l ++ (places_bytes s.places ++ s.bytes)) same ∙ ap (λ (l : List ℕ). index_bytes index ++ l) (sym read.after) ∙ sym there.cut in
    ap (λ (l : List ℕ). l ++ (index_bytes s.index ++ (places_bytes s.places ++ s.bytes))) head ∙ ap (λ (l : List ℕ). header_bytes h.index h.records ++ l) rest ∙ sym header.begins

pub file_of : AreDumps → (bytes : List ℕ) (s : Store) → AllBelow 256 bytes → store_in bytes ≡ Ok s → IsFileOf bytes s
unfolding store_in
file_of dumps bytes s below is =
    let small = small_bytes bytes below in
    let a = step (lifted (header_at bytes)) _ s is in
    let b = step (index_at bytes a.value.index) _ s a.next in
    let h : Header = a.value in
    let header = header_read bytes h small (lifted_ok _ _ a.was) in
    let index = index_read bytes h.index b.value b.was in
    let read = store_read bytes h b.value s small b.next in
    let small_index = small_item bytes 16 h.index index.item small index.there in
    let dump = dumps index.item (func.Bdz b.value) (λ k l. small_index k) index.spelled in
    let valid : IsBdz s.index = subst IsBdz (sym read.index_same) dump.1 in
    record {
      valid = record { keys = valid.keys; size = (omega (arith, read.size, header.records.0), omega (arith, read.size, header.records.1)); places = read.places; below = read.below; sound = read.sound };
      index = valid;
      file = λ two.
          let named : version_of index.item ≡ version.Two = sym (version_first (version_of index.item) b.value index.item (drop (16 + h.index) bytes) dump.0) ∙ ap version_of (sym index.there.cut) ∙ two in
          let item : index_bytes b.value ≡ index.item = rw named at dump.0 in
          whole_file bytes h b.value s header (subst (λ (xs : List ℕ). Stands bytes 16 h.index xs) (sym item) index.there) read;
    }
