-- What the dump of a function spells.
use Rattle.std.proofs.Common.{◌≡◌, ◌∙◌, ◌-◌, ◌⊎◌, inl, inr, ℕ, nat_lt, eqb, true, false, ◌+◌, ◌*◌, ◌<◌, ◌≤◌, ◌^◌, List, [], ◌∷◌, ◌++◌, length, ap, sym, subst, arith, refl, length-append, append_assoc, None, Result, Ok, ◌/◌, count_by, w32, append-nil, lit<, eq-eqb}
use Rattle.std.specs.Cmp.Lexicographic.{bytes_decides}
use Rattle.std.specs.Prelude.{replicate}
use Rattle.std.specs.Int.{byte_len, to_le_bytes, w8, w16}
use Rattle.std.specs.List.{All, flat_map}
use Rattle.std.proofs.lemmas.List.Elements.{All-head, All-tail, All-weaker}
use Rattle.std.proofs.lemmas.List.Sums.{sum_by-cons, sum_by_push}
use Rattle.std.proofs.lemmas.Bool.{cases_eq, ne_eqb}
use Rattle.cm_bdz.specs.Functions.{Bdz, BdzPh, IsBdz, IsBdzPh}
use Rattle.cm_bits.specs.Bound.{AllBelow}
use Rattle.cm_bits.specs.Fault.{packed_fault}
use Rattle.cm_bits.specs.Held.{packed_cells}
use Rattle.cm_bits.specs.PackedLaws.{packed_fault-image}
use Rattle.cm_brz_func.specs.Functions.{Brz, Bucket, IsBrz, IsBucket, bucket_cells, keys_in}
use Rattle.cm_brz_func.specs.Pushing.{with_bucket}
use Rattle.cm_spec.specs.declared.limits.TheConstants.{MAX_BUCKET, MAX_KEYS}
use Rattle.cm_dump_images.specs.Images.{fields_at, packed_at}
use Rattle.cm_dump_images.specs.ImageLaws.{fields_same, fields_sound, image_there, length-fields_image, packed_of_image}
use Rattle.cm_dump_items.specs.declared.fault.LoadFault.{LoadFault}
use Rattle.cm_dump_items.specs.Reading.{field_at, zeros_at, end_at}
use Rattle.cm_dump_items.specs.StepLaws.{ok_same}
use Rattle.cm_dump_items.specs.ItemLaws.{item_there, ltb_no}
use Rattle.cm_dump_items.specs.ThereLaws.{end_there, field_there, number_there, zero_there}
use Rattle.cm_dump_items.specs.WidthLaws.{of_one, of_two}
use Rattle.cm_rank.specs.Ranks.{sampled}
use Rattle.cm_spec.specs.Cells.{is_busy}
use Rattle.cm_spec.specs.Bdz.{bdz_size}
use Rattle.cm_spec.specs.Chm.{Chm, chm_size}
use Rattle.cm_spec.specs.Dump.{magic, fields_image}
use Rattle.cm_dump.specs.Dumps.{HasDump, dump_by, header, kind_bytes, chm_dump, packed_image, ranks_image, bucket_image, buckets_image, bdz_dump, bdz_ph_dump, brz_dump, dump_of}
use Rattle.cm_spec.specs.Image.{width_of, fields_len, packed_len, packed_byte}
use Rattle.cm_spec.specs.Lists.{list_of}
use Rattle.cm_dump.specs.declared.front.Algorithm.{Algorithm}
use Rattle.cm_dump.specs.declared.front.Algorithm.TheVariants as algorithm
use Rattle.cm_dump.specs.declared.front.Header.{Header}
use Rattle.cm_func.specs.declared.function.Func.{Func}
use Rattle.cm_func.specs.declared.function.Func.TheVariants as func
use Rattle.cm_dump.specs.declared.versions.Version.{Version}
use Rattle.cm_dump.specs.declared.versions.Version.TheVariants as version
use Rattle.cm_chm.specs.Functions.{IsChm}
use Rattle.cm_func.specs.Functions.{IsFunction}
use Rattle.cm_dump.specs.Headings.{IsParameter, magic_at, algorithm_of, algorithm_at, least_b, most_b, parameter_at, header_at, heading_at}
use Rattle.cm_dump.specs.Spelling.{chm_at, counted, ranks_at, ranked_at, bdz_at, bdz_ph_at, is_off, most_seed, size_at, crumbs_at, bucket_at, bucket_len, rest_at, brz_at, no_buckets, spelling_of, spelling_by}
use Rattle.cm_dump.proofs.BodyLemmas.{chm_known, bdz_known, bdz_ph_known}
use Rattle.cm_dump.proofs.BucketLemmas.{length-bucket_image}
use Rattle.cm_dump.proofs.DumpLemmas.{header_parts, length-header, length-packed_image, chm_dump_len, bdz_dump_len, bdz_ph_dump_len}
use Rattle.cm_dump.proofs.FormLemmas.{IsForm, form_facts, parameter_fits}
use Rattle.cm_dump.specs.Forms.{Form, form_of, version_1, version_2, version_of}
use Rattle.cm_dump.proofs.RankLemmas.{ranks_there}

-- ---- a header, and any bytes after it

-- the magic, and the algorithm's number and parameter, with any bytes after them
abbrev fore : Form → ℕ → ℕ → List ℕ → List ℕ
fore v number b after = v.magic ++ (kind_bytes v number b ++ after)

magic_there : (v : Form) → IsForm v → (number b : ℕ) (after : List ℕ) → magic_at v (fore v number b after) ≡ Ok tt
unfolding magic_at
magic_there v known number b after =
    let item = item_there (fore v number b after) [] v.magic (kind_bytes v number b ++ after) 0 8 refl refl known.magic in
    rw (item, (bytes_decides v.magic v.magic).1 refl) refl

number_of_there : (v : Form) → IsForm v → (a : Algorithm) (number b : ℕ) (after : List ℕ) → algorithm_of number ≡ Ok a → algorithm_at (fore v number b after) ≡ Ok a
unfolding algorithm_at
number_of_there v known a number b after kind =
    let item = item_there (fore v number b after) v.magic (number ∷ []) ((replicate (v.b_at - 9) 0 ++ (to_le_bytes v.b b ++ replicate (12 - (v.b_at + byte_len v.b)) 0)) ++ after) 8 1 refl known.magic refl in
    rw item kind

parameter_there : (w : Version) (a : Algorithm) (number b : ℕ) (after : List ℕ) → IsParameter (form_of w) a b → parameter_at (form_of w) (fore (form_of w) number b after) a ≡ Ok b
unfolding parameter_at zeros_at
parameter_there version.One a number b after range =
    let bytes = fore version_1 number b after in
    let front = magic ++ (number ∷ []) in
    let here = field_there w8 of_one bytes 9 (least_b version_1 a) (most_b version_1 a) b (item_there bytes front (to_le_bytes w8 b) (0 ∷ 0 ∷ after) 9 1 refl refl refl) (parameter_fits version.One a b range.1) range.0 range.1 in
    let first = zero_there bytes 10 (item_there bytes (front ++ to_le_bytes w8 b) (0 ∷ []) (0 ∷ after) 10 1 refl refl refl) in
    let second = zero_there bytes 11 (item_there bytes (front ++ (to_le_bytes w8 b ++ 0 ∷ [])) (0 ∷ []) after 11 1 refl refl refl) in
    rw (here, first, second) refl
parameter_there version.Two a number b after range =
    let bytes = fore version_2 number b after in
    let front = version_2.magic ++ (number ∷ []) in
    let first = zero_there bytes 9 (item_there bytes front (0 ∷ []) (to_le_bytes w16 b ++ after) 9 1 refl refl refl) in
    let here = field_there w16 of_two bytes 10 (least_b version_2 a) (most_b version_2 a) b (item_there bytes (front ++ 0 ∷ []) (to_le_bytes w16 b) after 10 2 refl refl refl) (parameter_fits version.Two a b range.1) range.0 range.1 in
    rw (first, here) refl

pub heading_there : (w : Version) (a : Algorithm) (number b keys ratio seed : ℕ) (rest : List ℕ) → algorithm_of number ≡ Ok a → IsParameter (form_of w) a b → 1 ≤ keys → keys ≤ (form_of w).most_keys → 1000000 ≤ ratio → ratio ≤ 10000000 → seed < 2 ^ 32
    → heading_at (form_of w) (header (form_of w) number b keys ratio seed ++ rest) ≡ Ok (record { algorithm = a; b = b; keys = keys; ratio = ratio; seed = seed })
unfolding heading_at header_at
heading_there w a number b keys ratio seed rest kind range some many least most fits =
    let v = form_of w in
    let known = form_facts w in
    let k = to_le_bytes w32 keys in
    let r = to_le_bytes w32 ratio in
    let s = to_le_bytes w32 seed in
    let front = v.magic ++ kind_bytes v number b in
    let bytes = front ++ (k ++ (r ++ (s ++ rest))) in
    let long : length front ≡ 12 = length-append v.magic (kind_bytes v number b) ∙ omega (arith, known.magic, known.kind number b) in
    let short : bytes ≡ fore v number b (k ++ (r ++ (s ++ rest))) = append_assoc v.magic (kind_bytes v number b) (k ++ (r ++ (s ++ rest))) in
    let begun : magic_at v bytes ≡ Ok tt = rw short (magic_there v known number b (k ++ (r ++ (s ++ rest)))) in
    let which : algorithm_at bytes ≡ Ok a = rw short (number_of_there v known a number b (k ++ (r ++ (s ++ rest))) kind) in
    let parameter : parameter_at v bytes a ≡ Ok b = rw short (parameter_there w a number b (k ++ (r ++ (s ++ rest))) range) in
    let few : keys ≤ MAX_KEYS = omega (arith, many, known.keys) in
    let second : length (front ++ k) ≡ 16 = length-append front k ∙ ap (λ (n : ℕ). n + 4) long in
    let third : length (front ++ (k ++ r)) ≡ 20 = length-append front (k ++ r) ∙ ap (λ (n : ℕ). n + 8) long in
    let keys_there = number_there bytes 12 1 v.most_keys keys (item_there bytes front k (r ++ (s ++ rest)) 12 4 refl long refl) (omega (arith, few)) some many in
    let ratio_there = number_there bytes 16 1000000 10000000 ratio (item_there bytes (front ++ k) r (s ++ rest) 16 4 (sym (append_assoc front k (r ++ (s ++ rest)))) second refl) (omega (arith, most)) least most in
    let seed_there = number_there bytes 20 0 4294967295 seed (item_there bytes (front ++ (k ++ r)) s rest 20 4 (sym (append_assoc front (k ++ r) (s ++ rest))) third refl) fits (omega arith) (omega (arith, fits)) in
    rw (header_parts v number b keys ratio seed rest, begun, which, parameter, keys_there, ratio_there, seed_there) refl

-- a dump names its version
named : (w : Version) (number b keys ratio seed : ℕ) (rest : List ℕ) → version_of (header (form_of w) number b keys ratio seed ++ rest) ≡ w
unfolding header
named version.One number b keys ratio seed rest = refl
named version.Two number b keys ratio seed rest = refl

-- ---- CHM

abbrev chm_header : Chm → Header
chm_header f = record { algorithm = algorithm.Chm; b = 0; keys = f.keys; ratio = f.ratio; seed = f.seed }

chm_heading : (w : Version) (f : Chm) → IsChm f → f.keys ≤ (form_of w).most_keys → heading_at (form_of w) (chm_dump (form_of w) f) ≡ Ok (chm_header f)
unfolding chm_dump
chm_heading w f is within = heading_there w algorithm.Chm 1 0 f.keys f.ratio f.seed (fields_image f.keys f.cells) refl (omega arith, omega arith) is.keys.0 within is.ratio.0 is.ratio.1 is.seed

chm_image : (v : Form) → IsForm v → (f : Chm) → IsChm f → fields_at (chm_dump v f) 24 (chm_size f.keys f.ratio) f.keys ≡ Ok (fields_image f.keys f.cells)
unfolding chm_dump
chm_image v known f is =
    image_there (chm_dump v f) (header v 1 0 f.keys f.ratio f.seed) (fields_image f.keys f.cells) [] 24 _ _ _
    (ap (λ (l : List ℕ). header v 1 0 f.keys f.ratio f.seed ++ l) (sym (append-nil (fields_image f.keys f.cells))))
    (length-header v known 1 0 f.keys f.ratio f.seed)
    (length-fields_image f.keys f.cells ∙ ap (fields_len (width_of f.keys)) is.size)
    (fields_sound f.keys (chm_size f.keys f.ratio) f.cells is.keys.1 is.size is.below)

chm_end : (v : Form) → IsForm v → (f : Chm) → IsChm f → end_at (chm_dump v f) (24 + fields_len (width_of f.keys) (chm_size f.keys f.ratio)) ≡ Ok tt
chm_end v known f is = end_there (chm_dump v f) _ (chm_dump_len v known f ∙ ap (λ (k : ℕ). 24 + fields_len (width_of f.keys) k) is.size)

chm_spelling : (v : Form) → IsForm v → (f : Chm) → IsChm f → chm_at (chm_dump v f) (chm_header f) ≡ Ok f
chm_spelling v known f is = chm_known (chm_dump v f) (chm_header f) f.cells f is.keys.1 is.size is.below (chm_image v known f is ∙ ap Ok (fields_same f.keys (chm_size f.keys f.ratio) f.cells is.size)) (chm_end v known f is) (record { keys = refl; ratio = refl; seed = refl; cells = refl })

-- ---- digits

digits_image : (d p n : ℕ) (cells : List ℕ) → length cells ≡ n → packed_image d p cells ≡ list_of (packed_byte d p cells) (packed_len p n)
unfolding packed_image
digits_image d p n cells size = ap (λ (k : ℕ). list_of (packed_byte d p cells) (packed_len p k)) size

digits_sound : (d p n : ℕ) (cells : List ℕ) → 0 < d → 0 < p → length cells ≡ n → AllBelow d cells → packed_fault d p n (packed_image d p cells) ≡ None
digits_sound d p n cells some many size below =
    subst (λ (l : List ℕ). packed_fault d p n l ≡ None) (sym (digits_image d p n cells size)) (rw size at (packed_fault-image d p cells some many below))

-- ---- BDZ

abbrev bdz_header : Bdz → Header
bdz_header f = record { algorithm = algorithm.Bdz; b = f.shift; keys = f.keys; ratio = f.ratio; seed = f.seed }

bdz_heading : (w : Version) (f : Bdz) → IsBdz f → f.keys ≤ (form_of w).most_keys → heading_at (form_of w) (bdz_dump (form_of w) f) ≡ Ok (bdz_header f)
unfolding bdz_dump
bdz_heading w f is within =
    heading_there w algorithm.Bdz 2 f.shift f.keys f.ratio f.seed (packed_image 4 4 f.cells ++ ranks_image (sampled 3 f.shift f.cells)) refl is.shift is.keys.0 within is.ratio.0 is.ratio.1 is.seed

bdz_image : (v : Form) → IsForm v → (f : Bdz) → IsBdz f → packed_at (bdz_dump v f) 24 4 4 (bdz_size f.keys f.ratio) ≡ Ok (packed_image 4 4 f.cells)
unfolding bdz_dump
bdz_image v known f is =
    image_there (bdz_dump v f) (header v 2 f.shift f.keys f.ratio f.seed) (packed_image 4 4 f.cells) (ranks_image (sampled 3 f.shift f.cells)) 24 _ _ _ refl
    (length-header v known 2 f.shift f.keys f.ratio f.seed)
    (length-packed_image 4 4 f.cells ∙ ap (packed_len 4) is.size)
    (digits_sound 4 4 (bdz_size f.keys f.ratio) f.cells (lit< tt) (lit< tt) is.size is.below)

bdz_counted : (f : Bdz) → IsBdz f → counted (bdz_header f) f.cells ≡ Ok f
unfolding counted
bdz_counted f is = rw (eq-eqb _ _ is.busy) refl

bdz_ranks : (v : Form) → IsForm v → (f : Bdz) → IsBdz f → ranks_at (bdz_dump v f) (24 + packed_len 4 (length f.cells)) (sampled 3 f.shift f.cells) ≡ Ok tt
unfolding bdz_dump
bdz_ranks v known f is =
    let front = header v 2 f.shift f.keys f.ratio f.seed ++ packed_image 4 4 f.cells in
    let long : length (header v 2 f.shift f.keys f.ratio f.seed ++ packed_image 4 4 f.cells) ≡ 24 + packed_len 4 (length f.cells) =
    length-append (header v 2 f.shift f.keys f.ratio f.seed) (packed_image 4 4 f.cells) ∙ omega (arith, length-header v known 2 f.shift f.keys f.ratio f.seed, length-packed_image 4 4 f.cells) in
    ranks_there (bdz_dump v f) front (sampled 3 f.shift f.cells) [] (24 + packed_len 4 (length f.cells))
    (sym (append_assoc (header v 2 f.shift f.keys f.ratio f.seed) (packed_image 4 4 f.cells) (ranks_image (sampled 3 f.shift f.cells))) ∙ ap (λ (l : List ℕ). front ++ l) (sym (append-nil (ranks_image (sampled 3 f.shift f.cells)))))
    long

bdz_end : (v : Form) → IsForm v → (f : Bdz) → end_at (bdz_dump v f) (24 + packed_len 4 (length f.cells) + 4 * length (sampled 3 f.shift f.cells)) ≡ Ok tt
bdz_end v known f = end_there (bdz_dump v f) _ (bdz_dump_len v known f)

bdz_spelling : (v : Form) → IsForm v → (f : Bdz) → IsBdz f → bdz_at (bdz_dump v f) (bdz_header f) ≡ Ok f
unfolding ranked_at
bdz_spelling v known f is =
    bdz_known (bdz_dump v f) (bdz_header f) f.cells is.size is.below (bdz_image v known f is ∙ ap Ok (digits_image 4 4 (bdz_size f.keys f.ratio) f.cells is.size))
    ∙ rw (bdz_counted f is, bdz_ranks v known f is, bdz_end v known f) refl

-- ---- BDZ_PH

abbrev bdz_ph_header : BdzPh → Header
bdz_ph_header f = record { algorithm = algorithm.BdzPh; b = 0; keys = f.keys; ratio = f.ratio; seed = f.seed }

bdz_ph_heading : (w : Version) (f : BdzPh) → IsBdzPh f → f.keys ≤ (form_of w).most_keys → heading_at (form_of w) (bdz_ph_dump (form_of w) f) ≡ Ok (bdz_ph_header f)
unfolding bdz_ph_dump
bdz_ph_heading w f is within = heading_there w algorithm.BdzPh 3 0 f.keys f.ratio f.seed (packed_image 3 5 f.cells) refl (omega arith, omega arith) is.keys.0 within is.ratio.0 is.ratio.1 is.seed

bdz_ph_image : (v : Form) → IsForm v → (f : BdzPh) → IsBdzPh f → packed_at (bdz_ph_dump v f) 24 3 5 (bdz_size f.keys f.ratio) ≡ Ok (packed_image 3 5 f.cells)
unfolding bdz_ph_dump
bdz_ph_image v known f is =
    image_there (bdz_ph_dump v f) (header v 3 0 f.keys f.ratio f.seed) (packed_image 3 5 f.cells) [] 24 _ _ _
    (ap (λ (l : List ℕ). header v 3 0 f.keys f.ratio f.seed ++ l) (sym (append-nil (packed_image 3 5 f.cells))))
    (length-header v known 3 0 f.keys f.ratio f.seed)
    (length-packed_image 3 5 f.cells ∙ ap (packed_len 5) is.size)
    (digits_sound 3 5 (bdz_size f.keys f.ratio) f.cells (lit< tt) (lit< tt) is.size is.below)

bdz_ph_spelling : (v : Form) → IsForm v → (f : BdzPh) → IsBdzPh f → bdz_ph_at (bdz_ph_dump v f) (bdz_ph_header f) ≡ Ok f
bdz_ph_spelling v known f is =
    bdz_ph_known (bdz_ph_dump v f) (bdz_ph_header f) f.cells f is.size is.below (bdz_ph_image v known f is ∙ ap Ok (digits_image 3 5 (bdz_size f.keys f.ratio) f.cells is.size))
    (end_there (bdz_ph_dump v f) _ (bdz_ph_dump_len v known f ∙ ap (λ (k : ℕ). 24 + packed_len 5 k) is.size))
    (record { keys = refl; ratio = refl; seed = refl; cells = refl })

-- ---- BRZ

abbrev brz_header : Brz → Header
brz_header f = record { algorithm = algorithm.Brz; b = f.width; keys = f.keys; ratio = f.ratio; seed = f.split }

brz_heading : (w : Version) (f : Brz) → IsBrz f → f.keys ≤ (form_of w).most_keys → f.width ≤ (form_of w).most_width → heading_at (form_of w) (brz_dump (form_of w) f) ≡ Ok (brz_header f)
unfolding brz_dump
brz_heading w f is within wide = heading_there w algorithm.Brz 4 f.width f.keys f.ratio f.split (buckets_image (form_of w) f.buckets) refl (omega (arith, (form_facts w).least, is.width.0), wide) is.keys.0 within is.ratio.0 is.ratio.1 is.split

seed_within : (size seed : ℕ) → (size ≡ 0 → seed ≡ 0) → seed < 2 ^ 32 → seed ≤ most_seed size
seed_within size seed none fits = go (cases_eq size 0) where
  go : (size ≡ 0) ⊎ (size ≡ 0 → ⊥) → seed ≤ most_seed size
  go (inl is) = let test : eqb size 0 ≡ true = eq-eqb size 0 is in rw test (omega (arith, none is))
  go (inr other) = let test : eqb size 0 ≡ false = ne_eqb size 0 other in rw test (omega (arith, fits))

-- a bucket that stands at an offset
record IsThere (v : Form) (bytes front after : List ℕ) (at : ℕ) (b : Bucket) : Type 0 where
  is : bytes ≡ front ++ (to_le_bytes v.size b.size ++ (to_le_bytes w32 b.seed ++ (packed_image 4 4 b.cells ++ after)))
  long : length front ≡ at

there_size : (v : Form) → IsForm v → (bytes front after : List ℕ) (at : ℕ) (f : Brz) (b : Bucket) (left : ℕ) → IsThere v bytes front after at b → b.size ≤ v.most_size → is_off f.keys (keys_in f.buckets + b.size) left ≡ false → size_at v bytes at f left ≡ Ok b.size
unfolding size_at
there_size v known bytes front after at f b left there few fits =
    let item = item_there bytes front (to_le_bytes v.size b.size) (to_le_bytes w32 b.seed ++ (packed_image 4 4 b.cells ++ after)) at (byte_len v.size) there.is there.long (known.size.long b.size) in
    let size = field_there v.size known.size bytes at 0 v.most_size b.size item (omega (arith, few, known.size_fits)) (omega arith) few in
    rw (size, fits) refl

there_seed : (v : Form) → IsForm v → (bytes front after : List ℕ) (at : ℕ) (b : Bucket) → IsThere v bytes front after at b → (b.size ≡ 0 → b.seed ≡ 0) → b.seed < 2 ^ 32 → field_at w32 bytes (at + byte_len v.size) 0 (most_seed b.size) ≡ Ok b.seed
there_seed v known bytes front after at b there none fits =
    let rest : List ℕ = packed_image 4 4 b.cells ++ after in
    let cut : bytes ≡ (front ++ to_le_bytes v.size b.size) ++ (to_le_bytes w32 b.seed ++ rest) = there.is ∙ sym (append_assoc front (to_le_bytes v.size b.size) (to_le_bytes w32 b.seed ++ rest)) in
    let long : length (front ++ to_le_bytes v.size b.size) ≡ at + byte_len v.size = length-append front (to_le_bytes v.size b.size) ∙ omega (arith, there.long, known.size.long b.size) in
    number_there bytes (at + byte_len v.size) 0 (most_seed b.size) b.seed (item_there bytes (front ++ to_le_bytes v.size b.size) (to_le_bytes w32 b.seed) rest (at + byte_len v.size) 4 cut long refl) fits (omega arith) (seed_within b.size b.seed none fits)

there_crumbs : (v : Form) → IsForm v → (bytes front after : List ℕ) (at n : ℕ) (b : Bucket) → IsThere v bytes front after at b → length b.cells ≡ n → AllBelow 4 b.cells → count_by (is_busy 3) b.cells ≡ b.size → crumbs_at bytes (at + (byte_len v.size + 4)) b.size n ≡ Ok b.cells
unfolding crumbs_at
there_crumbs v known bytes front after at n b there size below busy =
    let seed : List ℕ = to_le_bytes w32 b.seed in
    let image : List ℕ = packed_image 4 4 b.cells in
    let before : List ℕ = front ++ (to_le_bytes v.size b.size ++ seed) in
    let cut : bytes ≡ before ++ (image ++ after) = there.is ∙ ap (λ (l : List ℕ). front ++ l) (sym (append_assoc (to_le_bytes v.size b.size) seed (image ++ after))) ∙ sym (append_assoc front (to_le_bytes v.size b.size ++ seed) (image ++ after)) in
    let long : length before ≡ at + (byte_len v.size + 4) = length-append front (to_le_bytes v.size b.size ++ seed) ∙ omega (arith, there.long, length-append (to_le_bytes v.size b.size) seed, known.size.long b.size) in
    let whole = image_there bytes before image after (at + (byte_len v.size + 4)) (packed_len 4 n) (λ i. i / 4) (packed_fault 4 4 n) cut long (length-packed_image 4 4 b.cells ∙ ap (packed_len 4) size) (digits_sound 4 4 n b.cells (lit< tt) (lit< tt) size below) in
    let cells : packed_cells 4 4 n image ≡ b.cells = packed_of_image 4 4 n b.cells image (lit< tt) (lit< tt) size below (digits_image 4 4 n b.cells size) in
    rw (whole, cells, eq-eqb _ _ busy) refl

bucket_there : (v : Form) → IsForm v → (bytes front after : List ℕ) (at : ℕ) (f : Brz) (b : Bucket) (left : ℕ) → IsThere v bytes front after at b → IsBucket f.ratio b → b.size ≤ v.most_size → is_off f.keys (keys_in f.buckets + b.size) left ≡ false → bucket_at v bytes at f left ≡ Ok b
unfolding bucket_at
bucket_there v known bytes front after at f b left there valid few fits =
    rw (there_size v known bytes front after at f b left there few fits, there_seed v known bytes front after at b there valid.unseeded valid.seed, there_crumbs v known bytes front after at (bucket_cells b.size f.ratio) b there valid.cells valid.below valid.busy) refl

not_off : (keys held more left : ℕ) → held + more ≡ keys → (left ≡ 0 → more ≡ 0) → is_off keys held left ≡ false
not_off keys held more left all none = go (cases_eq left 0) where
  within : nat_lt keys held ≡ false
  within = ltb_no keys held (omega (arith, all))

  go : (left ≡ 0) ⊎ (left ≡ 0 → ⊥) → is_off keys held left ≡ false
  go (inl is) =
      let last : nat_lt held keys ≡ false = ltb_no held keys (omega (arith, all, none is)) in
      let test : eqb left 0 ≡ true = eq-eqb left 0 is in
      rw (within, test, last) refl
  go (inr other) = let test : eqb left 0 ≡ false = ne_eqb left 0 other in rw (within, test) refl

keys_none : (bs : List Bucket) → length bs ≡ 0 → keys_in bs ≡ 0
keys_none [] is = refl
keys_none (b ∷ bs) is = absurd (omega (arith, is))

abbrev with_buckets : Brz → List Bucket → Brz
with_buckets f bs = record f { buckets = f.buckets ++ bs }

rest_there : (v : Form) → IsForm v → (bytes front : List ℕ) (at : ℕ) (f : Brz) (later : List Bucket) → bytes ≡ front ++ buckets_image v later → length front ≡ at → All (IsBucket f.ratio) later → All (λ bucket. bucket.size ≤ v.most_size) later → keys_in f.buckets + keys_in later ≡ f.keys → rest_at v bytes at (length later) f ≡ Ok (with_buckets f later)
unfolding rest_at buckets_image bucket_image
rest_there v known bytes front at f [] is long each few all =
    let ended = end_there bytes at (ap length (is ∙ append-nil front) ∙ long) in
    rw ended (ap (λ (bs : List Bucket). let r : Result Brz LoadFault = Ok (record f { buckets = bs }) in r) (sym (append-nil f.buckets)))
rest_there v known bytes front at f (b ∷ later) is long each few all =
    let seed : List ℕ = to_le_bytes w32 b.seed in
    let image : List ℕ = packed_image 4 4 b.cells in
    let after : List ℕ = flat_map (bucket_image v) later in
    let there : IsThere v bytes front after at b = record { is = is ∙ ap (λ (l : List ℕ). front ++ l) (append_assoc (to_le_bytes v.size b.size) (seed ++ image) after ∙ ap (λ (l : List ℕ). to_le_bytes v.size b.size ++ l) (append_assoc seed image after)); long = long } in
    let size : keys_in (b ∷ later) ≡ b.size + keys_in later = sum_by-cons (λ (x : Bucket). x.size) b later in
    let pushed : keys_in (f.buckets ++ b ∷ []) ≡ keys_in f.buckets + b.size = sum_by_push (λ (x : Bucket). x.size) f.buckets b in
    let fits = not_off f.keys (keys_in f.buckets + b.size) (keys_in later) (length later) (omega (arith, all, size)) (keys_none later) in
    let small : b.size ≤ v.most_size = All-head (λ (x : Bucket). x.size ≤ v.most_size) b later few in
    let item = bucket_there v known bytes front after at f b (length later) there (All-head (IsBucket f.ratio) b later each) small fits in
    let next = rest_there v known bytes (front ++ bucket_image v b) (at + bucket_len v b) (with_bucket f b) later (is ∙ sym (append_assoc front (bucket_image v b) after)) (length-append front (bucket_image v b) ∙ omega (arith, long, length-bucket_image v known b)) (All-tail (IsBucket f.ratio) b later each) (All-tail (λ (x : Bucket). x.size ≤ v.most_size) b later few) (omega (arith, all, size, pushed)) in
    rw item (next ∙ ap (λ (bs : List Bucket). let r : Result Brz LoadFault = Ok (record f { buckets = bs }) in r) (append_assoc f.buckets (b ∷ []) later))

brz_spelling : (v : Form) → IsForm v → (f : Brz) → IsBrz f → All (λ bucket. bucket.size ≤ v.most_size) f.buckets → brz_at v (brz_dump v f) (brz_header f) ≡ Ok f
unfolding brz_at brz_dump
brz_spelling v known f is few =
    let all = rest_there v known (brz_dump v f) (header v 4 f.width f.keys f.ratio f.split) 24 (no_buckets (brz_header f)) f.buckets refl (length-header v known 4 f.width f.keys f.ratio f.split) is.each few (omega (arith, is.all)) in
    subst (λ (k : ℕ). rest_at v (brz_dump v f) 24 k (no_buckets (brz_header f)) ≡ Ok f) is.count all

-- ---- functions of any algorithm

pub version_of-dump_by : (w : Version) (f : Func) → version_of (dump_by (form_of w) f) ≡ w
unfolding chm_dump bdz_dump bdz_ph_dump brz_dump
version_of-dump_by w (func.Chm f) = named w 1 0 f.keys f.ratio f.seed _
version_of-dump_by w (func.Bdz f) = named w 2 f.shift f.keys f.ratio f.seed _
version_of-dump_by w (func.BdzPh f) = named w 3 0 f.keys f.ratio f.seed _
version_of-dump_by w (func.Brz f) = named w 4 f.width f.keys f.ratio f.split _

spelling_by-dump_by : (w : Version) (f : Func) → IsFunction f → HasDump (form_of w) f → spelling_by (form_of w) (dump_by (form_of w) f) ≡ Ok f
unfolding spelling_by
spelling_by-dump_by w (func.Chm f) is within = rw (chm_heading w f is within, chm_spelling (form_of w) (form_facts w) f is) refl
spelling_by-dump_by w (func.Bdz f) is within = rw (bdz_heading w f is within, bdz_spelling (form_of w) (form_facts w) f is) refl
spelling_by-dump_by w (func.BdzPh f) is within = rw (bdz_ph_heading w f is within, bdz_ph_spelling (form_of w) (form_facts w) f is) refl
spelling_by-dump_by w (func.Brz f) is within = rw (brz_heading w f is within.0 within.1, brz_spelling (form_of w) (form_facts w) f is within.2) refl

-- a dump spells its function
pub spelling_of-dump_by : (w : Version) (f : Func) → IsFunction f → HasDump (form_of w) f → spelling_of (dump_by (form_of w) f) ≡ Ok f
spelling_of-dump_by w f is within = ap (λ (u : Version). spelling_by (form_of u) (dump_by (form_of w) f)) (version_of-dump_by w f) ∙ spelling_by-dump_by w f is within

-- each function has a dump of version 2
pub has_dump : (f : Func) → IsFunction f → HasDump version_2 f
has_dump (func.Chm f) is = is.keys.1
has_dump (func.Bdz f) is = is.keys.1
has_dump (func.BdzPh f) is = is.keys.1
has_dump (func.Brz f) is = (is.keys.1, is.width.1, All-weaker (IsBucket f.ratio) (λ (b : Bucket). b.size ≤ MAX_BUCKET) (λ b valid. valid.few) f.buckets is.each)

pub spelling_of-dump_of : (f : Func) → IsFunction f → spelling_of (dump_of f) ≡ Ok f
spelling_of-dump_of f is = spelling_of-dump_by version.Two f is (has_dump f is)

-- equal dumps come from equal functions
pub same_from_dump : (f g : Func) → IsFunction f → IsFunction g → dump_of f ≡ dump_of g → f ≡ g
same_from_dump f g is other same = ok_same (sym (spelling_of-dump_of f is) ∙ ap spelling_of same ∙ spelling_of-dump_of g other)
