-- The buckets of bytes that spell a function by BRZ.
use Rattle.std.proofs.Common.{◌≡◌, ◌∙◌, ℕ, zero, eqb, ◌-◌, ◌+◌, ◌/◌, ◌<◌, ◌≤◌, ◌^◌, ◌⊎◌, suc, List, [], ◌∷◌, ◌++◌, append_assoc, length, drop, ap, sym, subst, arith, refl, nat_lt, Bool, true, false, if◌then◌else◌, Result, Ok, Err, w32, inl, inr, append-nil, lit<}
use Rattle.std.specs.Prelude.{count_by}
use Rattle.std.specs.Int.{byte_len, to_le_bytes}
use Rattle.std.specs.List.{All}
use Rattle.std.proofs.lemmas.List.Elements.{All-cons, All-nil}
use Rattle.std.proofs.Math.ListN.{drop_of_length-le}
use Rattle.std.proofs.Math.Nat.{le-div_iff_mul-le}
use Rattle.std.proofs.lemmas.Bool.{cases_lt, false≢true, eqb-true}
use Rattle.std.proofs.lemmas.List.Sums.{sum_by-cons, sum_by_push}
use Rattle.cm_bits.specs.Bound.{AllBelow}
use Rattle.cm_bits.specs.Fault.{packed_fault}
use Rattle.cm_bits.specs.Held.{packed_cells}
use Rattle.cm_brz_func.specs.Functions.{Brz, Bucket, IsBucket, bucket_cells, bucket_count, keys_in}
use Rattle.cm_brz_func.specs.Pushing.{with_bucket}
use Rattle.cm_spec.specs.declared.limits.TheConstants.{MAX_BUCKET, MIN_WIDTH, MAX_WIDTH}
use Rattle.cm_dump_images.specs.Images.{packed_at}
use Rattle.cm_dump_items.specs.declared.fault.LoadFault.{LoadFault}
use Rattle.cm_dump_items.specs.declared.fault.LoadFault.TheVariants as faults
use Rattle.cm_dump_items.specs.Reading.{field_at, end_at}
use Rattle.cm_dump_items.specs.ItemLaws.{ltb_no, ltb_yes}
use Rattle.cm_dump_items.specs.StepLaws.{if_ok, ok_err, ok_same, step}
use Rattle.cm_spec.specs.Cells.{is_busy}
use Rattle.cm_dump.specs.Dumps.{header, packed_image, bucket_image, buckets_image, brz_dump}
use Rattle.cm_spec.specs.Image.{packed_len}
use Rattle.cm_dump.specs.declared.front.Algorithm.TheVariants as algorithm
use Rattle.cm_dump.specs.declared.front.Header.{Header}
use Rattle.cm_func.specs.declared.function.Func.TheVariants as func
use Rattle.cm_dump.specs.Spelling.{is_off, most_seed, size_at, crumbs_at, bucket_at, bucket_len, rest_at, brz_at, no_buckets}
use Rattle.cm_dump.specs.Forms.{Form}
use Rattle.cm_dump.proofs.FormLemmas.{IsForm}
use Rattle.cm_dump.proofs.ReadBackItems.{ReadsFunction, ReadsHeader, packed_read}
use Rattle.cm_dump_images.specs.BackLaws.{image_back}
use Rattle.cm_dump_items.specs.BackLaws.{Small, Stands, end_read, field_read}
use Rattle.cm_dump_items.specs.WidthLaws.{of_four}

record ReadsSize (v : Form) (bytes : List ℕ) (at : ℕ) (f : Brz) (left size : ℕ) : Type 0 where
  pub there : Stands bytes at (byte_len v.size) (to_le_bytes v.size size)
  pub few : size ≤ v.most_size
  pub fits : is_off f.keys (keys_in f.buckets + size) left ≡ false

unless_off : (t : Bool) (e : LoadFault) (x y : ℕ) → (if t then (let r : Result ℕ LoadFault = Err e in r) else Ok x) ≡ Ok y → (t ≡ false) × (x ≡ y)
unless_off true e x y is = absurd (ok_err y e (sym is))
unless_off false e x y is = (refl, ok_same is)

size_read : (v : Form) → IsForm v → (bytes : List ℕ) (at : ℕ) (f : Brz) (left size : ℕ) → Small bytes → size_at v bytes at f left ≡ Ok size → ReadsSize v bytes at f left size
unfolding size_at
size_read v known bytes at f left size small is =
    let s = step (field_at v.size bytes at 0 v.most_size) _ size is in
    let read = field_read v.size known.size bytes at 0 v.most_size s.value small s.was in
    let test = unless_off (is_off f.keys (keys_in f.buckets + s.value) left) (faults.BadCount at) s.value size s.next in
    record {
      there = subst (λ (x : ℕ). Stands bytes at (byte_len v.size) (to_le_bytes v.size x)) test.1 read.there;
      few = subst (λ (x : ℕ). x ≤ v.most_size) test.1 read.below;
      fits = subst (λ (x : ℕ). is_off f.keys (keys_in f.buckets + x) left ≡ false) test.1 test.0;
    }

record ReadsCrumbs (bytes : List ℕ) (at size n : ℕ) (cells : List ℕ) : Type 0 where
  pub there : Stands bytes at (packed_len 4 n) (packed_image 4 4 cells)
  pub long : length cells ≡ n
  pub below : AllBelow 4 cells
  pub busy : count_by (is_busy 3) cells ≡ size

crumbs_read : (bytes : List ℕ) (at size n : ℕ) (cells : List ℕ) → crumbs_at bytes at size n ≡ Ok cells → ReadsCrumbs bytes at size n cells
unfolding crumbs_at
crumbs_read bytes at size n cells is =
    let s = step (packed_at bytes at 4 4 n) _ cells is in
    let read = image_back bytes at (packed_len 4 n) (λ i. i / 4) (packed_fault 4 4 n) s.value s.was in
    let held : List ℕ = packed_cells 4 4 n s.value in
    let image = packed_read 4 4 n s.value (lit< tt) (lit< tt) read.there.long read.none in
    let test = if_ok _ _ held cells s.next in
    let made : ReadsCrumbs bytes at size n held = record {
      there = subst (λ (xs : List ℕ). Stands bytes at (packed_len 4 n) xs) (sym image.image) read.there;
      long = image.long;
      below = image.below;
      busy = eqb-true _ _ test.0;
    } in
    subst (λ (xs : List ℕ). ReadsCrumbs bytes at size n xs) test.1 made

none_seeded : (size seed : ℕ) → seed ≤ most_seed size → size ≡ 0 → seed ≡ 0
none_seeded size seed within none =
    let e : seed ≤ most_seed 0 = subst (λ (k : ℕ). seed ≤ most_seed k) none within in
    omega (arith, e)

record ReadsBucket (v : Form) (bytes : List ℕ) (at : ℕ) (f : Brz) (left : ℕ) (b : Bucket) : Type 0 where
  pub valid : IsBucket f.ratio b
  pub few : b.size ≤ v.most_size
  pub cut : drop at bytes ≡ bucket_image v b ++ drop (at + bucket_len v b) bytes
  pub fits : is_off f.keys (keys_in f.buckets + b.size) left ≡ false

most_fits : (size seed : ℕ) → seed ≤ most_seed size → seed < 2 ^ 32
most_fits size seed within = go (eqb size 0) within where
  go : (t : Bool) → seed ≤ (if t then 0 else 4294967295) → seed < 2 ^ 32
  go true le = omega (arith, le)
  go false le = omega (arith, le)

bucket_read : (v : Form) → IsForm v → (bytes : List ℕ) (at : ℕ) (f : Brz) (left : ℕ) (b : Bucket) → Small bytes → bucket_at v bytes at f left ≡ Ok b → ReadsBucket v bytes at f left b
unfolding bucket_at bucket_image
bucket_read v known bytes at f left b small is =
    let s = step (size_at v bytes at f left) _ b is in
    let t = step (field_at w32 bytes (at + byte_len v.size) 0 (most_seed s.value)) _ b s.next in
    let u = step (crumbs_at bytes (at + (byte_len v.size + 4)) s.value (bucket_cells s.value f.ratio)) _ b t.next in
    let n : ℕ = bucket_cells s.value f.ratio in
    let front : ℕ = byte_len v.size + 4 in
    let size = size_read v known bytes at f left s.value small s.was in
    let seed = field_read w32 of_four bytes (at + byte_len v.size) 0 (most_seed s.value) t.value small t.was in
    let crumbs = crumbs_read bytes (at + front) s.value n u.value u.was in
    let first : List ℕ = to_le_bytes v.size s.value in
    let next : at + byte_len v.size + 4 ≡ at + front = omega arith in
    let seed_cut : drop (at + byte_len v.size) bytes ≡ to_le_bytes w32 t.value ++ drop (at + front) bytes = seed.there.cut ∙ ap (λ (k : ℕ). to_le_bytes w32 t.value ++ drop k bytes) next in
    let image : List ℕ = packed_image 4 4 u.value in
    let place : at + front + packed_len 4 n ≡ at + (front + packed_len 4 (length u.value)) = omega (arith, ap (λ (k : ℕ). packed_len 4 k) crumbs.long) in
    let last : List ℕ = drop (at + (front + packed_len 4 (length u.value))) bytes in
    let image_cut : drop (at + front) bytes ≡ image ++ last = crumbs.there.cut ∙ ap (λ (k : ℕ). image ++ drop k bytes) place in
    let whole : drop at bytes ≡ first ++ (to_le_bytes w32 t.value ++ (image ++ last)) = size.there.cut ∙ ap (λ (l : List ℕ). first ++ l) (seed_cut ∙ ap (λ (l : List ℕ). to_le_bytes w32 t.value ++ l) image_cut) in
    let few : s.value ≤ MAX_BUCKET = omega (arith, size.few, known.few) in
    let made : ReadsBucket v bytes at f left (record { size = s.value; seed = t.value; cells = u.value }) = record {
      valid = record { few = few; seed = most_fits s.value t.value seed.below; unseeded = none_seeded s.value t.value seed.below; cells = crumbs.long; below = crumbs.below; busy = crumbs.busy };
      few = size.few;
      cut = whole ∙ ap (λ (l : List ℕ). first ++ l) (sym (append_assoc (to_le_bytes w32 t.value) image last)) ∙ sym (append_assoc first (to_le_bytes w32 t.value ++ image) last);
      fits = size.fits;
    } in
    subst (λ (x : Bucket). ReadsBucket v bytes at f left x) (ok_same u.next) made

record ReadsRest (v : Form) (bytes : List ℕ) (at left : ℕ) (f g : Brz) : Type 0 where
  pub later : List Bucket
  pub is : (let h : Brz = record f { buckets = f.buckets ++ later } in h) ≡ g
  pub cut : drop at bytes ≡ buckets_image v later
  pub many : length later ≡ left
  pub each : All (IsBucket f.ratio) later
  pub few : All (λ bucket. bucket.size ≤ v.most_size) later
  pub all : 0 < left → keys_in f.buckets + keys_in later ≡ f.keys

-- with the last bucket there are as many keys as the function has
last_fits : (keys held : ℕ) → is_off keys held 0 ≡ false → held ≡ keys
last_fits keys held fits = go (cases_lt keys held) (cases_lt held keys) where
  go : (keys < held) ⊎ (held ≤ keys) → (held < keys) ⊎ (keys ≤ held) → held ≡ keys
  go (inl more) other = let test : nat_lt keys held ≡ true = ltb_yes keys held more in absurd (false≢true (sym (rw test at fits)))
  go (inr le) (inl less) =
      let test : nat_lt keys held ≡ false = ltb_no keys held le in
      let last : nat_lt held keys ≡ true = ltb_yes held keys less in
      absurd (false≢true (sym (rw (test, last) at fits)))
  go (inr le) (inr ge) = omega (arith, le, ge)

all_keys : (f : Brz) (b : Bucket) (later : List Bucket) (left : ℕ) → is_off f.keys (keys_in f.buckets + b.size) left ≡ false → length later ≡ left → (0 < left → keys_in (f.buckets ++ b ∷ []) + keys_in later ≡ f.keys) → keys_in f.buckets + keys_in (b ∷ later) ≡ f.keys
all_keys f b [] left fits many rest =
    let none : left ≡ 0 = omega (arith, many) in
    let held : keys_in f.buckets + b.size ≡ f.keys = last_fits f.keys (keys_in f.buckets + b.size) (subst (λ (k : ℕ). is_off f.keys (keys_in f.buckets + b.size) k ≡ false) none fits) in
    let size : keys_in (b ∷ []) ≡ b.size + 0 = sum_by-cons (λ (k : Bucket). k.size) b [] in
    omega (arith, held, size)
all_keys f b (x ∷ later) left fits many rest =
    let size : keys_in (b ∷ x ∷ later) ≡ b.size + keys_in (x ∷ later) = sum_by-cons (λ (k : Bucket). k.size) b (x ∷ later) in
    let pushed : keys_in (f.buckets ++ b ∷ []) ≡ keys_in f.buckets + b.size = sum_by_push (λ (k : Bucket). k.size) f.buckets b in
    omega (arith, rest (omega (arith, many)), size, pushed)

rest_read : (v : Form) → IsForm v → (bytes : List ℕ) (at left : ℕ) (f g : Brz) → Small bytes → rest_at v bytes at left f ≡ Ok g → ReadsRest v bytes at left f g
unfolding rest_at buckets_image
rest_read v known bytes at zero f g small is =
    let s = step (end_at bytes at) _ g is in
    record {
      later = [];
      is = ap (λ (bs : List Bucket). let h : Brz = record f { buckets = bs } in h) (append-nil f.buckets) ∙ ok_same s.next;
      cut = drop_of_length-le bytes (end_read bytes at s.value s.was);
      many = refl;
      each = All-nil (IsBucket f.ratio);
      few = All-nil (λ (x : Bucket). x.size ≤ v.most_size);
      all = λ some. absurd (omega (arith, some));
    }
rest_read v known bytes at (suc left) f g small is =
    let s = step (bucket_at v bytes at f left) _ g is in
    let b : Bucket = s.value in
    let read = bucket_read v known bytes at f left b small s.was in
    let rest = rest_read v known bytes (at + bucket_len v b) left (with_bucket f b) g small s.next in
    record {
      later = b ∷ rest.later;
      is = ap (λ (bs : List Bucket). let h : Brz = record f { buckets = bs } in h) (sym (append_assoc f.buckets (b ∷ []) rest.later)) ∙ rest.is;
      cut = read.cut ∙ ap (λ (l : List ℕ). bucket_image v b ++ l) rest.cut;
      many = omega (arith, rest.many);
      each = All-cons (IsBucket f.ratio) b rest.later read.valid rest.each;
      few = All-cons (λ (x : Bucket). x.size ≤ v.most_size) b rest.later read.few rest.few;
      all = λ some. all_keys f b rest.later left read.fits rest.many rest.all;
    }

pub brz_read : (v : Form) → IsForm v → (bytes : List ℕ) (h : Header) (f : Brz) → Small bytes → ReadsHeader v bytes h → h.algorithm ≡ algorithm.Brz → brz_at v bytes h ≡ Ok f → ReadsFunction v bytes (func.Brz f)
unfolding brz_at brz_dump
brz_read v known bytes h f small heading kind is =
    let rest = rest_read v known bytes 24 (bucket_count h.keys h.b) (no_buckets h) f small is in
    let range : (v.least_width ≤ h.b) × (h.b ≤ v.most_width) = rw kind at heading.parameter in
    let width : (MIN_WIDTH ≤ h.b) × (h.b ≤ MAX_WIDTH) = (omega (arith, range.0, known.least), omega (arith, range.1, known.most)) in
    let some : 1 ≤ bucket_count h.keys h.b = (le-div_iff_mul-le {k = h.b} {x = 1} {y = h.keys + (h.b - 1)} (omega (arith, width.0))).1 (omega (arith, heading.keys.0, width.0)) in
    let front : bytes ≡ header v 4 h.b h.keys h.ratio h.seed ++ drop 24 bytes = rw kind at heading.front in
    let made : ReadsFunction v bytes (func.Brz (record { keys = h.keys; ratio = h.ratio; width = h.b; split = h.seed; buckets = rest.later })) = record {
      dump = sym (front ∙ ap (λ (l : List ℕ). header v 4 h.b h.keys h.ratio h.seed ++ l) rest.cut);
      valid = record { keys = (heading.keys.0, omega (arith, heading.keys.1, known.keys)); ratio = heading.ratio; width = width; split = heading.seed; count = rest.many; each = rest.each; all = omega (arith, rest.all (omega (arith, some))) };
      within = (heading.keys.1, range.1, rest.few);
    } in
    subst (λ (x : Brz). ReadsFunction v bytes (func.Brz x)) rest.is made
