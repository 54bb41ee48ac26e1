-- The first bytes of a file decide what it is read as.
use Rattle.std.proofs.Common.{◌≡◌, ◌∙◌, ℕ, zero, suc, ◌+◌, ◌*◌, ◌-◌, ◌<◌, ◌≤◌, List, [], ◌∷◌, length, length-append, take, drop, ap, sym, arith, refl, length-take, Result, Ok, Err, inl, inr, w32}
use Rattle.std.specs.Int.{Width, byte_len, w8, w16, w64}
use Rattle.std.specs.Str.{is_utf8}
use Rattle.std.proofs.lemmas.Bool.{cases_lt}
use Rattle.std.proofs.lemmas.List.{drop-take, take-take, take_all}
use Rattle.sha2.specs.Sha256.{sha256}
use Rattle.cm_dump_items.specs.BackLaws.{field_range, stands}
use Rattle.cm_dump_items.specs.ItemLaws.{ltb_no, ltb_yes}
use Rattle.cm_dump_items.specs.Reading as reading
use Rattle.cm_dump_items.specs.Reading.{end_at, field_at, item_at, zeros_at}
use Rattle.cm_dump_items.specs.StepLaws.{if_ok, ok_same, step}
use Rattle.cm_dump_items.specs.declared.fault.LoadFault.{LoadFault}
use Rattle.cm_route.specs.declared.route.TheConstants.{MAX_SHARDS}
use Rattle.cm_spec.specs.declared.limits.TheConstants.{MAX_KEYS, MAX_VERTICES}
use Rattle.cm_shards_manifest.specs.ManifestBytes.{manifest_bytes, shard_len, shards_len, signed_bytes}
use Rattle.cm_shards_manifest.specs.ManifestFiles.{digest_place, manifest_in, signed_at}
use Rattle.cm_shards_manifest.specs.ManifestItems.{header_at, magic_at, manifest_at, name_at, rest_at, shard_at, shards_at}
use Rattle.cm_shards_manifest.specs.Manifests.{AreShards, IsManifest, Manifest}
use Rattle.cm_shards_manifest.specs.Steps.{◌>>=◌, lifted}
use Rattle.cm_shards_manifest.specs.declared.fault.ManifestFault.{ManifestFault}
use Rattle.cm_shards_manifest.specs.declared.header.Header.{Header}
use Rattle.cm_shards_manifest.specs.declared.limits.TheConstants.{MAX_MANIFEST_BYTES, MAX_NAME, MAX_SHARD_LEN}
use Rattle.cm_shards_manifest.specs.declared.shard.Shard.{Shard}
use Rattle.cm_shards_manifest.proofs.SpellingLemmas.{length-sha256, length-signed}

-- ---- steps

-- the same step, and then what is the same for what it returns
then_same : {A B : Type 0} (r : Result A LoadFault) (f g : A → Result B LoadFault) → ((x : A) → r ≡ Ok x → f x ≡ g x) → reading.◌>>=◌ r f ≡ reading.◌>>=◌ r g
then_same (Ok x) f g same = same x refl
then_same (Err e) f g same = refl

lifted_same : {A B : Type 0} (r : Result A LoadFault) (f g : A → Result B ManifestFault) → ((x : A) → r ≡ Ok x → f x ≡ g x) → (lifted r >>= f) ≡ (lifted r >>= g)
lifted_same (Ok x) f g same = same x refl
lifted_same (Err e) f g same = refl

-- ---- items, by the first k bytes

item_near : (bytes : List ℕ) (k at n : ℕ) → at + n ≤ k → item_at (take k bytes) at n ≡ item_at bytes at n
unfolding item_at
item_near bytes k at n near = elim (cases_lt (length bytes) (at + n)) [
  | inl short ↦ ap (λ (l : List ℕ). item_at l at n) (take_all k bytes (omega (arith, short, near)))
  | inr whole ↦ (
      let split : at + (k - at) ≡ k = omega (arith, near) in
      let rest : drop at (take k bytes) ≡ take (k - at) (drop at bytes) = ap (λ (i : ℕ). drop at (take i bytes)) (sym split) ∙ drop-take at (k - at) bytes in
      let same : take n (drop at (take k bytes)) ≡ take n (drop at bytes) = ap (λ (l : List ℕ). take n l) rest ∙ take-take n (k - at) (drop at bytes) (omega (arith, near)) in
      let long : at + n ≤ length (take k bytes) = omega (arith, length-take k bytes, near, whole) in
      rw (ltb_no (length (take k bytes)) (at + n) long, ltb_no (length bytes) (at + n) whole) (ap (λ (l : List ℕ). let r : Result (List ℕ) LoadFault = Ok l in r) same))
]

field_near : (w : Width) (bytes : List ℕ) (k at low high : ℕ) → at + byte_len w ≤ k → field_at w (take k bytes) at low high ≡ field_at w bytes at low high
unfolding field_at
field_near w bytes k at low high near = rw (item_near bytes k at (byte_len w) near) refl

magic_near : (bytes : List ℕ) (k : ℕ) → 8 ≤ k → magic_at (take k bytes) ≡ magic_at bytes
unfolding magic_at
magic_near bytes k near = rw (item_near bytes k 0 8 (omega (arith, near))) refl

zeros_near : (bytes : List ℕ) (k at n : ℕ) → at + n ≤ k → zeros_at (take k bytes) at n ≡ zeros_at bytes at n
unfolding zeros_at
zeros_near bytes k at zero near = refl
zeros_near bytes k at (suc n) near = rw (field_near w8 bytes k at 0 0 (omega (arith, near)), zeros_near bytes k (at + 1) n (omega (arith, near))) refl

pub header_near : (bytes : List ℕ) (k : ℕ) → 20 ≤ k → header_at (take k bytes) ≡ header_at bytes
unfolding header_at
header_near bytes k near =
    rw (magic_near bytes k (omega (arith, near)), field_near w8 bytes k 8 1 4 (omega (arith, near)), zeros_near bytes k 9 3 (omega (arith, near)), field_near w32 bytes k 12 0 4294967295 (omega (arith, near)), field_near w32 bytes k 16 1 MAX_SHARDS (omega (arith, near))) refl

name_near : (bytes : List ℕ) (k at n : ℕ) → at + n ≤ k → name_at (take k bytes) at n ≡ name_at bytes at n
unfolding name_at
name_near bytes k at n near = rw (item_near bytes k at n near) refl

rest_near : (bytes : List ℕ) (k at before : ℕ) (name : List ℕ) → at + 56 ≤ k → rest_at (take k bytes) at before name ≡ rest_at bytes at before name
unfolding rest_at
rest_near bytes k at before name near =
    rw (field_near w32 bytes k at 1 MAX_KEYS (omega (arith, near)), field_near w32 bytes k (at + 4) 1 MAX_VERTICES (omega (arith, near)), field_near w64 bytes k (at + 8) before before (omega (arith, near)), field_near w64 bytes k (at + 16) 0 18446744073709551615 (omega (arith, near)), item_near bytes k (at + 24) 32 (omega (arith, near))) refl

-- ---- shards

shard_near : (bytes : List ℕ) (k at before : ℕ) → at + MAX_SHARD_LEN ≤ k → shard_at (take k bytes) at before ≡ shard_at bytes at before
unfolding shard_at
shard_near bytes k at before near =
    rw (field_near w16 bytes k at 1 MAX_NAME (omega (arith, near))) (then_same (field_at w16 bytes at 1 MAX_NAME) _ _ (λ n is.
    let few : n ≤ MAX_NAME = (field_range w16 bytes at 1 MAX_NAME n is).1 in
    rw (name_near bytes k (at + 2) n (omega (arith, near, few))) (then_same (name_at bytes (at + 2) n) _ _ (λ name there. rest_near bytes k (at + 2 + n) before name (omega (arith, near, few))))))

-- a shard that is read has no longer name than it may have
name_long : (bytes : List ℕ) (at n : ℕ) (name : List ℕ) → name_at bytes at n ≡ Ok name → length name ≡ n
unfolding name_at
name_long bytes at n name is =
    let s = step (item_at bytes at n) _ name is in
    let test = if_ok (is_utf8 s.value) _ s.value name s.next in
    ap length (sym test.1) ∙ (stands bytes at n s.value s.was).long

rest_name : (bytes : List ℕ) (at before : ℕ) (name : List ℕ) (s : Shard) → rest_at bytes at before name ≡ Ok s → name ≡ s.name
unfolding rest_at
rest_name bytes at before name s is =
    let a = step (field_at w32 bytes at 1 MAX_KEYS) _ s is in
    let b = step (field_at w32 bytes (at + 4) 1 MAX_VERTICES) _ s a.next in
    let c = step (field_at w64 bytes (at + 8) before before) _ s b.next in
    let d = step (field_at w64 bytes (at + 16) 0 18446744073709551615) _ s c.next in
    let e = step (item_at bytes (at + 24) 32) _ s d.next in
    ap (λ (t : Shard). t.name) (ok_same e.next)

shard_short : (bytes : List ℕ) (at before : ℕ) (s : Shard) → shard_at bytes at before ≡ Ok s → shard_len s ≤ MAX_SHARD_LEN
unfolding shard_at
shard_short bytes at before s is =
    let a = step (field_at w16 bytes at 1 MAX_NAME) _ s is in
    let b = step (name_at bytes (at + 2) a.value) _ s a.next in
    let long : length s.name ≡ a.value = ap length (sym (rest_name bytes (at + 2 + a.value) before b.value s b.next)) ∙ name_long bytes (at + 2) a.value b.value b.was in
    omega (arith, long, (field_range w16 bytes at 1 MAX_NAME a.value a.was).1)

shards_near : (bytes : List ℕ) (k at before n : ℕ) → at + n * MAX_SHARD_LEN ≤ k → shards_at (take k bytes) at before n ≡ shards_at bytes at before n
unfolding shards_at
shards_near bytes k at before zero near = refl
shards_near bytes k at before (suc n) near =
    rw (shard_near bytes k at before (omega (arith, near))) (then_same (shard_at bytes at before) _ _ (λ s is.
    rw (shards_near bytes k (at + shard_len s) (before + s.span) n (omega (arith, near, shard_short bytes at before s is))) refl))

shards_short : (bytes : List ℕ) (at before n : ℕ) (shards : List Shard) → shards_at bytes at before n ≡ Ok shards → shards_len shards ≤ n * MAX_SHARD_LEN
unfolding shards_at
shards_short bytes at before zero shards is = rw (sym (ok_same is)) (omega arith)
shards_short bytes at before (suc n) shards is =
    let a = step (shard_at bytes at before) _ shards is in
    let b = step (shards_at bytes (at + shard_len a.value) (before + a.value.span) n) _ shards a.next in
    let less = shards_short bytes (at + shard_len a.value) (before + a.value.span) n b.value b.was in
    rw (sym (ok_same b.next)) (omega (arith, less, shard_short bytes at before a.value a.was))

-- ---- the file

manifest_near : (bytes : List ℕ) (k : ℕ) (h : Header) → header_at bytes ≡ Ok h → 20 + h.shards * MAX_SHARD_LEN ≤ k → manifest_at (take k bytes) ≡ manifest_at bytes
unfolding manifest_at
manifest_near bytes k h is near =
    rw (header_near bytes k (omega (arith, near)), is, shards_near bytes k 20 0 h.shards near) refl

manifest_short : (bytes : List ℕ) (h : Header) (m : Manifest) → header_at bytes ≡ Ok h → manifest_at bytes ≡ Ok m → digest_place m ≤ 20 + h.shards * MAX_SHARD_LEN
unfolding manifest_at
manifest_short bytes h m is read =
    let a = step (header_at bytes) _ m read in
    let b = step (shards_at bytes 20 0 a.value.shards) _ m a.next in
    let count : a.value.shards ≡ h.shards = ap (λ (x : Header). x.shards) (ok_same (sym a.was ∙ is)) in
    let place : digest_place m ≡ 20 + shards_len b.value = ap digest_place (sym (ok_same b.next)) in
    omega (arith, place, count, shards_short bytes 20 0 a.value.shards b.value b.was)

end_near : (bytes : List ℕ) (k at : ℕ) → at < k → end_at (take k bytes) at ≡ end_at bytes at
unfolding end_at
end_near bytes k at near = elim (cases_lt at (length bytes)) [
  | inl more ↦ rw (ltb_yes at (length (take k bytes)) (omega (arith, length-take k bytes, near, more)), ltb_yes at (length bytes) more) refl
  | inr end ↦ rw (ltb_no at (length (take k bytes)) (omega (arith, length-take k bytes, end)), ltb_no at (length bytes) end) refl
]

signed_near : (bytes : List ℕ) (k at : ℕ) → at + 32 < k → signed_at (take k bytes) at ≡ signed_at bytes at
unfolding signed_at
signed_near bytes k at near =
    rw (item_near bytes k at 32 (omega (arith, near)), take-take at k bytes (omega (arith, near)), end_near bytes k (at + 32) near) refl

-- a header, and one byte more than the longest manifest with it
pub manifest_of_header : (bytes : List ℕ) (k : ℕ) (h : Header) → header_at bytes ≡ Ok h → 20 + h.shards * MAX_SHARD_LEN + 32 < k → manifest_in (take k bytes) ≡ manifest_in bytes
unfolding manifest_in
manifest_of_header bytes k h is near =
    rw (manifest_near bytes k h is (omega (arith, near))) (lifted_same (manifest_at bytes) _ _ (λ m read.
    rw (signed_near bytes k (digest_place m) (omega (arith, near, manifest_short bytes h m is read))) refl))

-- no header
pub manifest_of_none : (bytes : List ℕ) (k : ℕ) (fault : LoadFault) → header_at bytes ≡ Err fault → 20 ≤ k → manifest_in (take k bytes) ≡ manifest_in bytes
unfolding manifest_in manifest_at
manifest_of_none bytes k fault is near = rw (header_near bytes k near, is) refl

-- ---- the longest manifest

shards_few : (before : ℕ) (shards : List Shard) → AreShards before shards → shards_len shards ≤ length shards * MAX_SHARD_LEN
shards_few before [] are = omega arith
shards_few before (s ∷ shards) are = omega (arith, are.0.name.1, shards_few (before + s.span) shards are.2)

pub manifest_few : (m : Manifest) → IsManifest m → length (manifest_bytes m) ≤ MAX_MANIFEST_BYTES
unfolding manifest_bytes
manifest_few m is =
    let less = shards_few 0 m.shards is.shards in
    omega (arith, length-append (signed_bytes m) (sha256 (signed_bytes m)), length-signed m is, length-sha256 (signed_bytes m), less, is.count.1)
