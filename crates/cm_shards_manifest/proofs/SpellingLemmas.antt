-- The manifest that is read from a manifest's file.
use Rattle.std.proofs.Common.{◌≡◌, ◌∙◌, ℕ, ◌+◌, ◌%◌, ◌<◌, ◌≤◌, ◌^◌, List, [], ◌∷◌, ◌++◌, length, length-append, take, ap, sym, subst, arith, refl, append_assoc, append-nil, Ok, w32, lit<}
use Rattle.std.specs.Cmp.Lexicographic.{bytes_decides}
use Rattle.std.specs.Int.{to_le_bytes, w8, w16, w64}
use Rattle.std.proofs.lemmas.List.{take_at}
use Rattle.sha2.specs.Sha256.{digest_bytes, sha256}
use Rattle.cm_algo_names.specs.declared.algorithm.Algorithm.{Algorithm}
use Rattle.cm_algo_names.specs.declared.algorithm.Algorithm.TheVariants as algorithm
use Rattle.cm_dump_items.specs.Reading.{end_at, field_at, item_at, zeros_at}
use Rattle.cm_dump_items.specs.StepLaws.{ok_same}
use Rattle.cm_dump_items.specs.ThereLaws.{end_there}
use Rattle.cm_dump_items.specs.WidthLaws.{of_four, of_one, of_two}
use Rattle.cm_route.specs.declared.route.TheConstants.{MAX_SHARDS}
use Rattle.cm_spec.specs.declared.limits.TheConstants.{MAX_KEYS, MAX_VERTICES}
use Rattle.cm_shards_manifest.specs.ManifestBytes.{algorithm_number, header_bytes, manifest_bytes, manifest_magic, rest_bytes, shard_bytes, shard_len, shards_bytes, shards_len, signed_bytes}
use Rattle.cm_shards_manifest.specs.ManifestFiles.{digest_place, digest_unless, manifest_in, signed_at}
use Rattle.cm_shards_manifest.specs.ManifestItems.{algorithm_of, header_at, magic_at, manifest_at, rest_at, shard_at, shards_at}
use Rattle.cm_shards_manifest.specs.ManifestLaws.{spans_cons, spans_few}
use Rattle.cm_shards_manifest.specs.Manifests.{AreShards, IsManifest, IsShard, Manifest, spans}
use Rattle.cm_shards_manifest.specs.declared.limits.TheConstants.{MAX_NAME}
use Rattle.cm_shards_manifest.specs.declared.shard.Shard.{Shard}
use Rattle.cm_shards_manifest.proofs.FromLemmas.{From, from_field, from_item, from_next, of_eight}
use Rattle.cm_shards_manifest.proofs.NameLemmas.{name_known}

-- ---- the header, and any bytes after it

-- the magic, and the number of an algorithm with the zeros
abbrev pub head_bytes : ℕ → List ℕ
head_bytes number = manifest_magic ++ number ∷ 0 ∷ 0 ∷ 0 ∷ []

pub header_parts : (a : Algorithm) (seed n : ℕ) (rest : List ℕ) → header_bytes a seed n ++ rest ≡ head_bytes (algorithm_number a) ++ (to_le_bytes w32 seed ++ (to_le_bytes w32 n ++ rest))
unfolding header_bytes
header_parts a seed n rest = refl

pub length-header : (a : Algorithm) (seed n : ℕ) → length (header_bytes a seed n) ≡ 20
unfolding header_bytes
length-header a seed n = refl

magic_there : (bytes after : List ℕ) → bytes ≡ manifest_magic ++ after → magic_at bytes ≡ Ok tt
unfolding magic_at
magic_there bytes after is = rw (from_item bytes 0 8 manifest_magic after (record { first = []; is = is; long = refl }) refl) refl

pub number_range : (a : Algorithm) → (1 ≤ algorithm_number a) × (algorithm_number a ≤ 4)
number_range algorithm.Chm = (omega arith, omega arith)
number_range algorithm.Bdz = (omega arith, omega arith)
number_range algorithm.BdzPh = (omega arith, omega arith)
number_range algorithm.Brz = (omega arith, omega arith)

pub algorithm_back : (a : Algorithm) → algorithm_of (algorithm_number a) ≡ a
algorithm_back algorithm.Chm = refl
algorithm_back algorithm.Bdz = refl
algorithm_back algorithm.BdzPh = refl
algorithm_back algorithm.Brz = refl

pub byte_of : (x : ℕ) → x < 256 → to_le_bytes w8 x ≡ x ∷ []
byte_of x few = let same : x % 256 ≡ x = omega (arith, few) in ap (λ (y : ℕ). y ∷ []) same

byte_there : (bytes : List ℕ) (at low high x : ℕ) (zs : List ℕ) → From bytes at (x ∷ zs) → x < 256 → low ≤ x → x ≤ high → field_at w8 bytes at low high ≡ Ok x
byte_there bytes at low high x zs from few above below = from_field w8 of_one bytes at low high x zs (subst (λ (l : List ℕ). From bytes at (l ++ zs)) (sym (byte_of x few)) from) few above below

zeros_there : (bytes zs : List ℕ) → From bytes 9 (0 ∷ 0 ∷ 0 ∷ zs) → zeros_at bytes 9 3 ≡ Ok tt
unfolding zeros_at
zeros_there bytes zs from =
    let second : From bytes 10 (0 ∷ 0 ∷ zs) = from_next bytes 9 10 (0 ∷ []) (0 ∷ 0 ∷ zs) from (omega arith) in
    let third : From bytes 11 (0 ∷ zs) = from_next bytes 10 11 (0 ∷ []) (0 ∷ zs) second (omega arith) in
    rw (byte_there bytes 9 0 0 0 (0 ∷ 0 ∷ zs) from (lit< tt) (omega arith) (omega arith), byte_there bytes 10 0 0 0 (0 ∷ zs) second (lit< tt) (omega arith) (omega arith), byte_there bytes 11 0 0 0 zs third (lit< tt) (omega arith) (omega arith)) refl

header_there : (a : Algorithm) (seed n : ℕ) (rest : List ℕ) → seed < 2 ^ 32 → (1 ≤ n) × (n ≤ MAX_SHARDS) → header_at (header_bytes a seed n ++ rest) ≡ Ok (record { algorithm = a; seed = seed; shards = n })
unfolding header_at
header_there a seed n rest few count =
    let x = algorithm_number a in
    let s = to_le_bytes w32 seed in
    let k = to_le_bytes w32 n in
    let bytes : List ℕ = head_bytes x ++ (s ++ (k ++ rest)) in
    let range = number_range a in
    let zeros : From bytes 9 (0 ∷ 0 ∷ 0 ∷ (s ++ (k ++ rest))) = record { first = manifest_magic ++ x ∷ []; is = refl; long = refl } in
    let seeds : From bytes 12 (s ++ (k ++ rest)) = record { first = head_bytes x; is = refl; long = refl } in
    let counts : From bytes 16 (k ++ rest) = from_next bytes 12 16 s (k ++ rest) seeds (omega arith) in
    let begun : magic_at bytes ≡ Ok tt = magic_there bytes (x ∷ 0 ∷ 0 ∷ 0 ∷ (s ++ (k ++ rest))) refl in
    let number_is = byte_there bytes 8 1 4 x (0 ∷ 0 ∷ 0 ∷ (s ++ (k ++ rest))) (record { first = manifest_magic; is = refl; long = refl }) (omega (arith, range.1)) range.0 range.1 in
    let seed_is = from_field w32 of_four bytes 12 0 4294967295 seed (k ++ rest) seeds few (omega arith) (omega (arith, few)) in
    let count_is = from_field w32 of_four bytes 16 1 MAX_SHARDS n rest counts (omega (arith, count.1)) count.0 count.1 in
    rw (header_parts a seed n rest, begun, number_is, zeros_there bytes (s ++ (k ++ rest)) zeros, seed_is, count_is, algorithm_back a) refl

-- ---- a shard, and any bytes after it

rest_parts : (s : Shard) (zs : List ℕ) → rest_bytes s ++ zs ≡ to_le_bytes w32 s.keys ++ (to_le_bytes w32 s.span ++ (to_le_bytes w64 s.offset ++ (to_le_bytes w64 s.len ++ (s.digest ++ zs))))
unfolding rest_bytes
rest_parts s zs = refl

pub length-rest : (s : Shard) → length s.digest ≡ 32 → length (rest_bytes s) ≡ 56
unfolding rest_bytes
length-rest s long =
    let k = to_le_bytes w32 s.keys in
    let p = to_le_bytes w32 s.span in
    let o = to_le_bytes w64 s.offset in
    let n = to_le_bytes w64 s.len in
    let four : (length k ≡ 4) × (length p ≡ 4) = (refl, refl) in
    let eight : (length o ≡ 8) × (length n ≡ 8) = (refl, refl) in
    omega (arith, length-append k (p ++ (o ++ (n ++ s.digest))), length-append p (o ++ (n ++ s.digest)), length-append o (n ++ s.digest), length-append n s.digest, four.0, four.1, eight.0, eight.1, long)

pub shard_parts : (s : Shard) (zs : List ℕ) → shard_bytes s ++ zs ≡ to_le_bytes w16 (length s.name) ++ (s.name ++ (rest_bytes s ++ zs))
unfolding shard_bytes
shard_parts s zs = ap (λ (l : List ℕ). to_le_bytes w16 (length s.name) ++ l) (append_assoc s.name (rest_bytes s) zs)

pub length-shard : (s : Shard) → length s.digest ≡ 32 → length (shard_bytes s) ≡ shard_len s
unfolding shard_bytes
length-shard s long =
    let two : length (to_le_bytes w16 (length s.name)) ≡ 2 = refl in
    omega (arith, length-append (to_le_bytes w16 (length s.name)) (s.name ++ rest_bytes s), length-append s.name (rest_bytes s), length-rest s long, two)

rest_there : (bytes : List ℕ) (at before : ℕ) (s : Shard) (zs : List ℕ) → From bytes at (rest_bytes s ++ zs) → IsShard s → s.offset ≡ before → before < 2 ^ 64 → rest_at bytes at before s.name ≡ Ok s
unfolding rest_at
rest_there bytes at before s zs from is offset few =
    let first = subst (From bytes at) (rest_parts s zs) from in
    let second = from_next bytes at (at + 4) (to_le_bytes w32 s.keys) _ first (omega arith) in
    let third = from_next bytes (at + 4) (at + 8) (to_le_bytes w32 s.span) _ second (omega arith) in
    let fourth = from_next bytes (at + 8) (at + 16) (to_le_bytes w64 s.offset) _ third (omega arith) in
    let fifth = from_next bytes (at + 16) (at + 24) (to_le_bytes w64 s.len) _ fourth (omega arith) in
    let keys = from_field w32 of_four bytes at 1 MAX_KEYS s.keys _ first (omega (arith, is.keys.1)) is.keys.0 is.keys.1 in
    let span = from_field w32 of_four bytes (at + 4) 1 MAX_VERTICES s.span _ second (omega (arith, is.span.1)) is.span.0 is.span.1 in
    let place = from_field w64 of_eight bytes (at + 8) before before s.offset _ third (omega (arith, offset, few)) (omega (arith, offset)) (omega (arith, offset)) in
    let len = from_field w64 of_eight bytes (at + 16) 0 18446744073709551615 s.len _ fourth is.len (omega arith) (omega (arith, is.len)) in
    let digest = from_item bytes (at + 24) 32 s.digest zs fifth is.digest.0 in
    rw (keys, span, place, len, digest) refl

shard_there : (bytes : List ℕ) (at before : ℕ) (s : Shard) (zs : List ℕ) → From bytes at (shard_bytes s ++ zs) → IsShard s → s.offset ≡ before → before < 2 ^ 64 → shard_at bytes at before ≡ Ok s
unfolding shard_at
shard_there bytes at before s zs from is offset few =
    let n : ℕ = length s.name in
    let first = subst (From bytes at) (shard_parts s zs) from in
    let second = from_next bytes at (at + 2) (to_le_bytes w16 n) _ first (omega arith) in
    let third = from_next bytes (at + 2) (at + 2 + n) s.name (rest_bytes s ++ zs) second (omega arith) in
    let size = from_field w16 of_two bytes at 1 MAX_NAME n _ first (omega (arith, is.name.1)) is.name.0 is.name.1 in
    let name = name_known bytes s.name (at + 2) n (from_item bytes (at + 2) n s.name _ second refl) is.text in
    rw (size, name, rest_there bytes (at + 2 + n) before s zs third is offset few) refl

-- ---- shards, one after another

pub length-shards : (before : ℕ) (shards : List Shard) → AreShards before shards → length (shards_bytes shards) ≡ shards_len shards
length-shards before [] are = refl
length-shards before (s ∷ shards) are = omega (arith, length-append (shard_bytes s) (shards_bytes shards), length-shard s are.0.digest.0, length-shards (before + s.span) shards are.2)

shards_there : (bytes : List ℕ) (at before : ℕ) (shards : List Shard) (zs : List ℕ) → From bytes at (shards_bytes shards ++ zs) → AreShards before shards → before + spans shards < 2 ^ 64 → shards_at bytes at before (length shards) ≡ Ok shards
unfolding shards_at
shards_there bytes at before [] zs from are few = refl
shards_there bytes at before (s ∷ shards) zs from are few =
    let sum : spans (s ∷ shards) ≡ s.span + spans shards = spans_cons s shards in
    let parts : (shard_bytes s ++ shards_bytes shards) ++ zs ≡ shard_bytes s ++ (shards_bytes shards ++ zs) = append_assoc (shard_bytes s) (shards_bytes shards) zs in
    let first : From bytes at (shard_bytes s ++ (shards_bytes shards ++ zs)) = subst (From bytes at) parts from in
    let next : From bytes (at + shard_len s) (shards_bytes shards ++ zs) = from_next bytes at (at + shard_len s) (shard_bytes s) (shards_bytes shards ++ zs) first (ap (λ (n : ℕ). at + n) (length-shard s are.0.digest.0)) in
    rw (shard_there bytes at before s (shards_bytes shards ++ zs) first are.0 are.1 (omega (arith, sum, few)), shards_there bytes (at + shard_len s) (before + s.span) shards zs next are.2 (omega (arith, sum, few))) refl

-- ---- the file

pub length-sha256 : (m : List ℕ) → length (sha256 m) ≡ 32
unfolding sha256 digest_bytes
length-sha256 m = refl

pub length-signed : (m : Manifest) → IsManifest m → length (signed_bytes m) ≡ digest_place m
unfolding signed_bytes
length-signed m is = omega (arith, length-append (header_bytes m.algorithm m.seed (length m.shards)) (shards_bytes m.shards), length-header m.algorithm m.seed (length m.shards), length-shards 0 m.shards is.shards)

items_there : (m : Manifest) (rest : List ℕ) → IsManifest m → manifest_at (signed_bytes m ++ rest) ≡ Ok m
unfolding manifest_at signed_bytes
items_there m rest is =
    let head = header_bytes m.algorithm m.seed (length m.shards) in
    let bytes : List ℕ = head ++ (shards_bytes m.shards ++ rest) in
    let parts : (head ++ shards_bytes m.shards) ++ rest ≡ bytes = append_assoc head (shards_bytes m.shards) rest in
    let few : 0 + spans m.shards < 2 ^ 64 = omega (arith, spans_few 0 m.shards is.shards, is.count.1) in
    let from : From bytes 20 (shards_bytes m.shards ++ rest) = record { first = head; is = refl; long = length-header m.algorithm m.seed (length m.shards) } in
    rw (parts, header_there m.algorithm m.seed (length m.shards) (shards_bytes m.shards ++ rest) is.seed is.count, shards_there bytes 20 0 m.shards rest from is.shards few) refl

same_digest : (bytes : List ℕ) (at : ℕ) (digest : List ℕ) → digest ≡ sha256 (take at bytes) → digest_unless bytes at digest ≡ Ok tt
same_digest bytes at digest is = rw ((bytes_decides digest (sha256 (take at bytes))).1 is) refl

signed_there : (signed : List ℕ) (at : ℕ) → length signed ≡ at → signed_at (signed ++ sha256 signed) at ≡ Ok tt
unfolding signed_at
signed_there signed at long =
    let bytes : List ℕ = signed ++ sha256 signed in
    let front : take at bytes ≡ signed = take_at signed (sha256 signed) at long in
    let own : item_at bytes at 32 ≡ Ok (sha256 signed) = from_item bytes at 32 (sha256 signed) [] (record { first = signed; is = ap (λ (l : List ℕ). signed ++ l) (sym (append-nil (sha256 signed))); long = long }) (length-sha256 signed) in
    let end : end_at bytes (at + 32) ≡ Ok tt = end_there bytes (at + 32) (omega (arith, length-append signed (sha256 signed), length-sha256 signed, long)) in
    rw (own, same_digest bytes at (sha256 signed) (ap sha256 (sym front)), end) refl

pub manifest_back : (m : Manifest) → IsManifest m → manifest_in (manifest_bytes m) ≡ Ok m
unfolding manifest_in manifest_bytes
manifest_back m is = rw (items_there m (sha256 (signed_bytes m)) is, signed_there (signed_bytes m) (digest_place m) (length-signed m is)) refl

-- equal files come from equal manifests
pub same_from_file : (m n : Manifest) → IsManifest m → IsManifest n → manifest_bytes m ≡ manifest_bytes n → m ≡ n
same_from_file m n is other same = ok_same (sym (manifest_back m is) ∙ ap manifest_in same ∙ manifest_back n other)
