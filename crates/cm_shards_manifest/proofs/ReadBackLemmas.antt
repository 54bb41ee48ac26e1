-- Bytes from which a manifest is read are its file.
use Rattle.std.proofs.Common.{◌≡◌, ◌∙◌, ℕ, zero, suc, ◌+◌, ◌<◌, ◌≤◌, ◌^◌, List, [], ◌∷◌, ◌++◌, length, take, drop, ap, sym, subst, arith, refl, append_assoc, Bool, true, false, if◌then◌else◌, Ok, Err, Result, w32}
use Rattle.std.specs.Prelude.{IsUtf8}
use Rattle.std.specs.Cmp.Lexicographic.{bytes_decides}
use Rattle.std.specs.Int.{to_le_bytes, w8, w16, w64}
use Rattle.std.specs.Str.{is_utf8}
use Rattle.std.proofs.lemmas.List.{take_at}
use Rattle.std.proofs.lemmas.Str.{IsUtf8-from_is_utf8}
use Rattle.sha2.specs.Sha256.{sha256}
use Rattle.cm_bits.specs.Bound.{AllBelow}
use Rattle.cm_dump_items.specs.BackLaws.{Small, Stands, end_read, field_read, last_item, small_bytes, small_item, stands, zero_read}
use Rattle.cm_dump_items.specs.Reading.{field_at, item_at, zeros_at}
use Rattle.cm_dump_items.specs.StepLaws as items
use Rattle.cm_dump_items.specs.WidthLaws.{of_four, of_one, of_two}
use Rattle.cm_dump_items.specs.declared.fault.LoadFault.{LoadFault}
use Rattle.cm_route.specs.declared.route.TheConstants.{MAX_SHARDS}
use Rattle.cm_spec.specs.declared.limits.TheConstants.{MAX_KEYS, MAX_VERTICES}
use Rattle.cm_shards_manifest.specs.ManifestBytes.{algorithm_number, header_bytes, manifest_bytes, manifest_magic, rest_bytes, shard_bytes, shard_len, shards_bytes, shards_len, signed_bytes}
use Rattle.cm_shards_manifest.specs.ManifestFiles.{digest_place, digest_unless, manifest_in, signed_at}
use Rattle.cm_shards_manifest.specs.ManifestItems.{algorithm_of, header_at, magic_at, manifest_at, name_at, rest_at, shard_at, shards_at}
use Rattle.cm_shards_manifest.specs.Manifests.{AreShards, IsManifest, IsShard, Manifest}
use Rattle.cm_shards_manifest.specs.Steps.{◌>>=◌, fault_named, lifted}
use Rattle.cm_shards_manifest.specs.declared.fault.ManifestFault.{ManifestFault}
use Rattle.cm_shards_manifest.specs.declared.header.Header.{Header}
use Rattle.cm_shards_manifest.specs.declared.limits.TheConstants.{MAX_NAME}
use Rattle.cm_shards_manifest.specs.declared.shard.Shard.{Shard}
use Rattle.cm_shards_manifest.proofs.FromLemmas.{of_eight}
use Rattle.cm_shards_manifest.proofs.SpellingLemmas.{byte_of, header_parts, length-signed}

-- ---- steps

-- a step that found no fault
record Step {A B : Type 0} (r : Result A ManifestFault) (f : A → Result B ManifestFault) (y : B) : Type 0 where
  value : A
  was : r ≡ Ok value
  next : f value ≡ Ok y

step : {A B : Type 0} (r : Result A ManifestFault) (f : A → Result B ManifestFault) (y : B) → (r >>= f) ≡ Ok y → Step r f y
step (Ok x) f y is = record { value = x; was = refl; next = is }
step (Err e) f y is = absurd (items.ok_err y e (sym is))

lifted_ok : {A : Type 0} (r : Result A LoadFault) (x : A) → lifted r ≡ Ok x → r ≡ Ok x
lifted_ok (Ok y) x is = ap Ok (items.ok_same is)
lifted_ok (Err e) x is = absurd (items.ok_err x (fault_named e) (sym is))

-- ---- the header

magic_read : (bytes : List ℕ) (x : Unit {0}) → magic_at bytes ≡ Ok x → Stands bytes 0 8 manifest_magic
unfolding magic_at
magic_read bytes x is =
    let s = items.step (item_at bytes 0 8) _ x is in
    let same : s.value ≡ manifest_magic = (bytes_decides s.value manifest_magic).0 (items.if_ok _ _ _ _ s.next).0 in
    subst (λ (xs : List ℕ). Stands bytes 0 8 xs) same (stands bytes 0 8 s.value s.was)

zeros_read : (bytes : List ℕ) (x : Unit {0}) → Small bytes → zeros_at bytes 9 3 ≡ Ok x → drop 9 bytes ≡ 0 ∷ 0 ∷ 0 ∷ drop 12 bytes
unfolding zeros_at
zeros_read bytes x small is =
    let a = items.step (field_at w8 bytes 9 0 0) _ x is in
    let b = items.step (field_at w8 bytes 10 0 0) _ x a.next in
    let c = items.step (field_at w8 bytes 11 0 0) _ x b.next in
    let last : drop 10 bytes ≡ 0 ∷ 0 ∷ drop 12 bytes = (zero_read bytes 10 b.value small b.was).cut ∙ ap (λ (l : List ℕ). 0 ∷ l) (zero_read bytes 11 c.value small c.was).cut in
    (zero_read bytes 9 a.value small a.was).cut ∙ ap (λ (l : List ℕ). 0 ∷ l) last

number_back : (x : ℕ) → 1 ≤ x → x ≤ 4 → algorithm_number (algorithm_of x) ≡ x
number_back zero low high = absurd (omega (arith, low))
number_back (suc zero) low high = refl
number_back (suc (suc zero)) low high = refl
number_back (suc (suc (suc zero))) low high = refl
number_back (suc (suc (suc (suc zero)))) low high = refl
number_back (suc (suc (suc (suc (suc x))))) low high = absurd (omega (arith, high))

record ReadsHeader (bytes : List ℕ) (h : Header) : Type 0 where
  seed : h.seed < 2 ^ 32
  shards : (1 ≤ h.shards) × (h.shards ≤ MAX_SHARDS)
  begins : bytes ≡ header_bytes h.algorithm h.seed h.shards ++ drop 20 bytes

header_read : (bytes : List ℕ) (h : Header) → Small bytes → header_at bytes ≡ Ok h → ReadsHeader bytes h
unfolding header_at
header_read bytes h small is =
    let m = items.step (magic_at bytes) _ h is in
    let a = items.step (field_at w8 bytes 8 1 4) _ h m.next in
    let z = items.step (zeros_at bytes 9 3) _ h a.next in
    let s = items.step (field_at w32 bytes 12 0 4294967295) _ h z.next in
    let n = items.step (field_at w32 bytes 16 1 MAX_SHARDS) _ h s.next in
    let number = field_read w8 of_one bytes 8 1 4 a.value small a.was in
    let seed = field_read w32 of_four bytes 12 0 4294967295 s.value small s.was in
    let shards = field_read w32 of_four bytes 16 1 MAX_SHARDS n.value small n.was in
    let begun = magic_read bytes m.value m.was in
    let h' : Header = record { algorithm = algorithm_of a.value; seed = s.value; shards = n.value } in
    let last : drop 12 bytes ≡ to_le_bytes w32 s.value ++ (to_le_bytes w32 n.value ++ drop 20 bytes) = seed.there.cut ∙ ap (λ (l : List ℕ). to_le_bytes w32 s.value ++ l) shards.there.cut in
    let after : drop 8 bytes ≡ a.value ∷ 0 ∷ 0 ∷ 0 ∷ (to_le_bytes w32 s.value ++ (to_le_bytes w32 n.value ++ drop 20 bytes)) =
    number.there.cut ∙ ap (λ (l : List ℕ). l ++ drop 9 bytes) (byte_of a.value (omega (arith, number.below))) ∙ ap (λ (l : List ℕ). a.value ∷ l) (zeros_read bytes z.value small z.was ∙ ap (λ (l : List ℕ). 0 ∷ 0 ∷ 0 ∷ l) last) in
    let same : algorithm_number (algorithm_of a.value) ≡ a.value = number_back a.value number.above number.below in
    let made : ReadsHeader bytes h' = record {
      seed = omega (arith, seed.below);
      shards = (shards.above, shards.below);
      begins = begun.cut ∙ ap (λ (l : List ℕ). manifest_magic ++ l) after ∙ ap (λ (x : ℕ). manifest_magic ++ x ∷ 0 ∷ 0 ∷ 0 ∷ (to_le_bytes w32 s.value ++ (to_le_bytes w32 n.value ++ drop 20 bytes))) (sym same) ∙ sym (header_parts (algorithm_of a.value) s.value n.value (drop 20 bytes));
    } in
    subst (λ (x : Header). ReadsHeader bytes x) (items.ok_same n.next) made

-- ---- a shard

record ReadsName (bytes : List ℕ) (at n : ℕ) (name : List ℕ) : Type 0 where
  there : Stands bytes at n name
  text : IsUtf8 name

name_read : (bytes : List ℕ) (at n : ℕ) (name : List ℕ) → name_at bytes at n ≡ Ok name → ReadsName bytes at n name
unfolding name_at
name_read bytes at n name is =
    let s = items.step (item_at bytes at n) _ name is in
    let test = items.if_ok (is_utf8 s.value) _ s.value name s.next in
    let made : ReadsName bytes at n s.value = record { there = stands bytes at n s.value s.was; text = IsUtf8-from_is_utf8 s.value test.0 } in
    subst (λ (l : List ℕ). ReadsName bytes at n l) test.1 made

-- the ranges of a shard without its name
record IsRest (s : Shard) : Type 0 where
  keys : (1 ≤ s.keys) × (s.keys ≤ MAX_KEYS)
  span : (1 ≤ s.span) × (s.span ≤ MAX_VERTICES)
  len : s.len < 2 ^ 64
  digest : (length s.digest ≡ 32) × AllBelow 256 s.digest

record ReadsRest (bytes : List ℕ) (at before : ℕ) (name : List ℕ) (s : Shard) : Type 0 where
  named : s.name ≡ name
  offset : s.offset ≡ before
  valid : IsRest s
  cut : drop at bytes ≡ rest_bytes s ++ drop (at + 56) bytes

rest_read : (bytes : List ℕ) (at before : ℕ) (name : List ℕ) (s : Shard) → Small bytes → rest_at bytes at before name ≡ Ok s → ReadsRest bytes at before name s
unfolding rest_at rest_bytes
rest_read bytes at before name s small is =
    let a = items.step (field_at w32 bytes at 1 MAX_KEYS) _ s is in
    let b = items.step (field_at w32 bytes (at + 4) 1 MAX_VERTICES) _ s a.next in
    let c = items.step (field_at w64 bytes (at + 8) before before) _ s b.next in
    let d = items.step (field_at w64 bytes (at + 16) 0 18446744073709551615) _ s c.next in
    let e = items.step (item_at bytes (at + 24) 32) _ s d.next in
    let keys = field_read w32 of_four bytes at 1 MAX_KEYS a.value small a.was in
    let span = field_read w32 of_four bytes (at + 4) 1 MAX_VERTICES b.value small b.was in
    let offset = field_read w64 of_eight bytes (at + 8) before before c.value small c.was in
    let len = field_read w64 of_eight bytes (at + 16) 0 18446744073709551615 d.value small d.was in
    let digest = stands bytes (at + 24) 32 e.value e.was in
    let small_digest = small_item bytes (at + 24) 32 e.value small digest in
    let s' : Shard = record { name = name; keys = a.value; span = b.value; offset = c.value; len = d.value; digest = e.value } in
    let on : (n m k : ℕ) → n + m ≡ k → drop (n + m) bytes ≡ drop k bytes = λ n m k is. ap (λ (j : ℕ). drop j bytes) is in
    let fifth : drop (at + 24) bytes ≡ e.value ++ drop (at + 56) bytes = digest.cut ∙ ap (λ (l : List ℕ). e.value ++ l) (on (at + 24) 32 (at + 56) (omega arith)) in
    let fourth : drop (at + 16) bytes ≡ to_le_bytes w64 d.value ++ (e.value ++ drop (at + 56) bytes) = len.there.cut ∙ ap (λ (l : List ℕ). to_le_bytes w64 d.value ++ l) (on (at + 16) 8 (at + 24) (omega arith) ∙ fifth) in
    let third : drop (at + 8) bytes ≡ to_le_bytes w64 c.value ++ (to_le_bytes w64 d.value ++ (e.value ++ drop (at + 56) bytes)) = offset.there.cut ∙ ap (λ (l : List ℕ). to_le_bytes w64 c.value ++ l) (on (at + 8) 8 (at + 16) (omega arith) ∙ fourth) in
    let second : drop (at + 4) bytes ≡ to_le_bytes w32 b.value ++ (to_le_bytes w64 c.value ++ (to_le_bytes w64 d.value ++ (e.value ++ drop (at + 56) bytes))) = span.there.cut ∙ ap (λ (l : List ℕ). to_le_bytes w32 b.value ++ l) (on (at + 4) 4 (at + 8) (omega arith) ∙ third) in
    let made : ReadsRest bytes at before name s' = record {
      named = refl;
      offset = omega (arith, offset.above, offset.below);
      valid = record { keys = (keys.above, keys.below); span = (span.above, span.below); len = omega (arith, len.below); digest = (digest.long, λ k l. small_digest k) };
      cut = keys.there.cut ∙ ap (λ (l : List ℕ). to_le_bytes w32 a.value ++ l) second;
    } in
    subst (λ (x : Shard). ReadsRest bytes at before name x) (items.ok_same e.next) made

record ReadsShard (bytes : List ℕ) (at before : ℕ) (s : Shard) : Type 0 where
  offset : s.offset ≡ before
  valid : IsShard s
  cut : drop at bytes ≡ shard_bytes s ++ drop (at + shard_len s) bytes

shard_read : (bytes : List ℕ) (at before : ℕ) (s : Shard) → Small bytes → shard_at bytes at before ≡ Ok s → ReadsShard bytes at before s
unfolding shard_at shard_bytes
shard_read bytes at before s small is =
    let a = items.step (field_at w16 bytes at 1 MAX_NAME) _ s is in
    let n : ℕ = a.value in
    let b = items.step (name_at bytes (at + 2) n) _ s a.next in
    let size = field_read w16 of_two bytes at 1 MAX_NAME n small a.was in
    let name = name_read bytes (at + 2) n b.value b.was in
    let rest = rest_read bytes (at + 2 + n) before b.value s small b.next in
    let named : s.name ≡ b.value = rest.named in
    let long : length s.name ≡ n = ap length named ∙ name.there.long in
    let end : at + 2 + n + 56 ≡ at + shard_len s = omega (arith, long) in
    let third : drop (at + 2 + n) bytes ≡ rest_bytes s ++ drop (at + shard_len s) bytes = rest.cut ∙ ap (λ (j : ℕ). rest_bytes s ++ drop j bytes) end in
    let second : drop (at + 2) bytes ≡ s.name ++ (rest_bytes s ++ drop (at + shard_len s) bytes) = name.there.cut ∙ ap (λ (l : List ℕ). b.value ++ l) third ∙ ap (λ (l : List ℕ). l ++ (rest_bytes s ++ drop (at + shard_len s) bytes)) (sym named) in
    let first : drop at bytes ≡ to_le_bytes w16 (length s.name) ++ (s.name ++ (rest_bytes s ++ drop (at + shard_len s) bytes)) = size.there.cut ∙ ap (λ (l : List ℕ). to_le_bytes w16 n ++ l) second ∙ ap (λ (j : ℕ). to_le_bytes w16 j ++ (s.name ++ (rest_bytes s ++ drop (at + shard_len s) bytes))) (sym long) in
    record {
      offset = rest.offset;
      valid = record {
        name = (omega (arith, long, size.above), omega (arith, long, size.below));
        text = subst IsUtf8 (sym named) name.text;
        keys = rest.valid.keys;
        span = rest.valid.span;
        len = rest.valid.len;
        digest = rest.valid.digest;
      };
      cut = first ∙ ap (λ (l : List ℕ). to_le_bytes w16 (length s.name) ++ l) (sym (append_assoc s.name (rest_bytes s) (drop (at + shard_len s) bytes)));
    }

-- ---- shards, one after another

record ReadsShards (bytes : List ℕ) (at before n : ℕ) (shards : List Shard) : Type 0 where
  are : AreShards before shards
  count : length shards ≡ n
  cut : drop at bytes ≡ shards_bytes shards ++ drop (at + shards_len shards) bytes

shards_read : (bytes : List ℕ) (at before n : ℕ) (shards : List Shard) → Small bytes → shards_at bytes at before n ≡ Ok shards → ReadsShards bytes at before n shards
unfolding shards_at
shards_read bytes at before zero shards small is =
    let made : ReadsShards bytes at before 0 [] = record { are = tt; count = refl; cut = ap (λ (j : ℕ). drop j bytes) (let e : at ≡ at + 0 = omega arith in e) } in
    subst (λ (l : List Shard). ReadsShards bytes at before 0 l) (items.ok_same is) made
shards_read bytes at before (suc n) shards small is =
    let a = items.step (shard_at bytes at before) _ shards is in
    let s : Shard = a.value in
    let b = items.step (shards_at bytes (at + shard_len s) (before + s.span) n) _ shards a.next in
    let one = shard_read bytes at before s small a.was in
    let more = shards_read bytes (at + shard_len s) (before + s.span) n b.value small b.was in
    let end : at + shard_len s + shards_len b.value ≡ at + shards_len (s ∷ b.value) = omega arith in
    let rest : List ℕ = drop (at + shards_len (s ∷ b.value)) bytes in
    let made : ReadsShards bytes at before (suc n) (s ∷ b.value) = record {
      are = (one.valid, one.offset, more.are);
      count = omega (arith, more.count);
      cut = one.cut ∙ ap (λ (l : List ℕ). shard_bytes s ++ l) (more.cut ∙ ap (λ (j : ℕ). shards_bytes b.value ++ drop j bytes) end) ∙ sym (append_assoc (shard_bytes s) (shards_bytes b.value) rest);
    } in
    subst (λ (l : List Shard). ReadsShards bytes at before (suc n) l) (items.ok_same b.next) made

-- ---- the file

record ReadsItems (bytes : List ℕ) (m : Manifest) : Type 0 where
  valid : IsManifest m
  cut : bytes ≡ signed_bytes m ++ drop (digest_place m) bytes

items_read : (bytes : List ℕ) (m : Manifest) → Small bytes → manifest_at bytes ≡ Ok m → ReadsItems bytes m
unfolding manifest_at signed_bytes
items_read bytes m small is =
    let a = items.step (header_at bytes) _ m is in
    let h : Header = a.value in
    let b = items.step (shards_at bytes 20 0 h.shards) _ m a.next in
    let header = header_read bytes h small a.was in
    let shards = shards_read bytes 20 0 h.shards b.value small b.was in
    let m' : Manifest = record { algorithm = h.algorithm; seed = h.seed; shards = b.value } in
    let head : header_bytes h.algorithm h.seed h.shards ≡ header_bytes h.algorithm h.seed (length b.value) = ap (header_bytes h.algorithm h.seed) (sym shards.count) in
    let made : ReadsItems bytes m' = record {
      valid = record { seed = header.seed; count = (omega (arith, shards.count, header.shards.0), omega (arith, shards.count, header.shards.1)); shards = shards.are };
      cut = header.begins ∙ ap (λ (l : List ℕ). l ++ drop 20 bytes) head ∙ ap (λ (l : List ℕ). header_bytes h.algorithm h.seed (length b.value) ++ l) shards.cut ∙ sym (append_assoc (header_bytes h.algorithm h.seed (length b.value)) (shards_bytes b.value) (drop (20 + shards_len b.value) bytes));
    } in
    subst (λ (x : Manifest). ReadsItems bytes x) (items.ok_same b.next) made

digest_is : (bytes : List ℕ) (at : ℕ) (digest : List ℕ) (x : Unit {0}) → digest_unless bytes at digest ≡ Ok x → digest ≡ sha256 (take at bytes)
digest_is bytes at digest x is = (bytes_decides digest (sha256 (take at bytes))).0 (if_done _ _ x is) where
  if_done : (t : Bool) (e : ManifestFault) (x : Unit {0}) → (if t then (let r : Result (Unit {0}) ManifestFault = Ok tt in r) else Err e) ≡ Ok x → t ≡ true
  if_done true e x is = refl
  if_done false e x is = absurd (items.ok_err x e (sym is))

signed_read : (bytes : List ℕ) (at : ℕ) (x : Unit {0}) → signed_at bytes at ≡ Ok x → drop at bytes ≡ sha256 (take at bytes)
unfolding signed_at
signed_read bytes at x is =
    let a = step (lifted (item_at bytes at 32)) _ x is in
    let b = step (digest_unless bytes at a.value) _ x a.next in
    let there = stands bytes at 32 a.value (lifted_ok _ _ a.was) in
    last_item bytes at (at + 32) a.value there.cut (end_read bytes (at + 32) x (lifted_ok _ _ b.next)) ∙ digest_is bytes at a.value b.value b.was

pub file_of : (bytes : List ℕ) (m : Manifest) → AllBelow 256 bytes → manifest_in bytes ≡ Ok m → (manifest_bytes m ≡ bytes) × IsManifest m
unfolding manifest_in manifest_bytes
file_of bytes m below is =
    let a = step (lifted (manifest_at bytes)) _ m is in
    let n : Manifest = a.value in
    let b = step (signed_at bytes (digest_place n)) _ m a.next in
    let read = items_read bytes n (small_bytes bytes below) (lifted_ok _ _ a.was) in
    let front : take (digest_place n) bytes ≡ signed_bytes n = ap (λ (l : List ℕ). take (digest_place n) l) read.cut ∙ take_at (signed_bytes n) (drop (digest_place n) bytes) (digest_place n) (length-signed n read.valid) in
    let last : drop (digest_place n) bytes ≡ sha256 (signed_bytes n) = signed_read bytes (digest_place n) b.value b.was ∙ ap sha256 front in
    let file : signed_bytes n ++ sha256 (signed_bytes n) ≡ bytes = ap (λ (l : List ℕ). signed_bytes n ++ l) (sym last) ∙ sym read.cut in
    let same : n ≡ m = items.ok_same b.next in
    (subst (λ (x : Manifest). signed_bytes x ++ sha256 (signed_bytes x) ≡ bytes) same file, subst IsManifest same read.valid)
