-- Lemmas about buckets that are read one after another, which the proofs of readers cite. No contract needs them.
use Rattle.std.specs.Int.{byte_len, w32}
use Rattle.std.proofs.Common.{◌≡◌, ◌∙◌, ℕ, suc, ◌+◌, length, ap, sym, subst, arith, refl, inl, inr, count_by, nat_lt, List, [], ◌∷◌, length-append, lit<, eq-eqb, true, false, Ok, Err}
use Rattle.std.proofs.lemmas.Bool.{false≢true, ne_eqb}
use Rattle.cm_brz_func.specs.Functions.{Brz, Bucket, bucket_cells, bucket_count, keys_in}
use Rattle.cm_brz_func.specs.Pushing.{Miscounts, with_bucket}
use Rattle.cm_dump_images.specs.Images.{packed_at}
use Rattle.cm_dump_images.specs.ImageLaws.{packed_of_image}
use Rattle.cm_dump_items.specs.declared.fault.LoadFault.{LoadFault}
use Rattle.cm_dump_items.specs.Reading.{Fails, end_at, field_at}
use Rattle.cm_dump_items.specs.declared.fault.LoadFault.TheVariants as faults
use Rattle.cm_dump_items.specs.ItemLaws.{ltb_no, ltb_yes}
use Rattle.cm_dump_items.specs.StepLaws.{fails_then}
use Rattle.cm_spec.specs.Cells.{is_busy}
use Rattle.cm_dump.specs.Spelling.{brz_at, bucket_at, bucket_len, crumbs_at, is_off, left_of, most_seed, no_buckets, rest_at, size_at}
use Rattle.cm_dump.specs.declared.front.Header.{Header}
use Rattle.cm_bits.specs.Bound.{AllBelow}
use Rattle.cm_spec.specs.Image.{packed_byte, packed_len}
use Rattle.cm_spec.specs.Lists.{list_of}
use Rattle.cm_dump.specs.Forms.{Form}

-- a bucket of which each item was read
pub bucket_known : (v : Form) (bytes : List ℕ) (at : ℕ) (f : Brz) (left size seed : ℕ) (cells : List ℕ) → size_at v bytes at f left ≡ Ok size → field_at w32 bytes (at + byte_len v.size) 0 (most_seed size) ≡ Ok seed → crumbs_at bytes (at + (byte_len v.size + 4)) size (bucket_cells size f.ratio) ≡ Ok cells
    → bucket_at v bytes at f left ≡ Ok (record { size = size; seed = seed; cells = cells })
unfolding bucket_at
bucket_known v bytes at f left size seed cells sized seeded there = rw (sized, seeded, there) refl

-- one of whose items there is a fault
pub bucket_unsized : (v : Form) (bytes : List ℕ) (at : ℕ) (f : Brz) (left : ℕ) (e : LoadFault) → Fails e (size_at v bytes at f left) → Fails e (bucket_at v bytes at f left)
unfolding bucket_at
bucket_unsized v bytes at f left e fails = fails_then e _ _ fails

pub bucket_unseeded : (v : Form) (bytes : List ℕ) (at : ℕ) (f : Brz) (left size : ℕ) (e : LoadFault) → size_at v bytes at f left ≡ Ok size → Fails e (field_at w32 bytes (at + byte_len v.size) 0 (most_seed size)) → Fails e (bucket_at v bytes at f left)
unfolding bucket_at
bucket_unseeded v bytes at f left size e sized fails = rw sized (fails_then e _ _ fails)

pub bucket_uncelled : (v : Form) (bytes : List ℕ) (at : ℕ) (f : Brz) (left size seed : ℕ) (e : LoadFault) → size_at v bytes at f left ≡ Ok size → field_at w32 bytes (at + byte_len v.size) 0 (most_seed size) ≡ Ok seed → Fails e (crumbs_at bytes (at + (byte_len v.size + 4)) size (bucket_cells size f.ratio)) → Fails e (bucket_at v bytes at f left)
unfolding bucket_at
bucket_uncelled v bytes at f left size seed e sized seeded fails = rw (sized, seeded) (fails_then e _ _ fails)

-- a bucket that was read
pub rest_step : (v : Form) (bytes : List ℕ) (at left k : ℕ) (f : Brz) (b : Bucket) → k ≡ suc left → bucket_at v bytes at f left ≡ Ok b → rest_at v bytes at k f ≡ rest_at v bytes (at + bucket_len v b) left (with_bucket f b)
unfolding rest_at
rest_step v bytes at left k f b more read = rw (more, read) refl

-- one that has a fault
pub rest_fault : (v : Form) (bytes : List ℕ) (at left k : ℕ) (f : Brz) (e : LoadFault) → k ≡ suc left → Fails e (bucket_at v bytes at f left) → Fails e (rest_at v bytes at k f)
unfolding rest_at
rest_fault v bytes at left k f e more fails = rw more (fails_then e _ _ fails)

-- a bucket that fits is the function's next one
pub never_miscounts : (f : Brz) (b : Bucket) (left : ℕ) → count_by (is_busy 3) b.cells ≡ b.size → is_off f.keys (keys_in f.buckets + b.size) left ≡ false → left + 1 + length f.buckets ≡ bucket_count f.keys f.width → Miscounts f b → ⊥
never_miscounts f b left busy fits many (inl other) = other busy
never_miscounts f b left busy fits many (inr (inl more)) =
    let test : nat_lt f.keys (keys_in f.buckets + b.size) ≡ true = ltb_yes f.keys (keys_in f.buckets + b.size) more in
    false≢true (sym (rw test at fits))
never_miscounts f b left busy fits many (inr (inr last)) =
    let held : ℕ = keys_in f.buckets + b.size in
    let none : left ≡ 0 = omega (arith, many, last.0) in
    let test : nat_lt f.keys held ≡ false = ltb_no f.keys held (omega (arith, last.1)) in
    let fewer : nat_lt held f.keys ≡ true = ltb_yes held f.keys last.1 in
    let off = subst (λ (k : ℕ). is_off f.keys held k ≡ false) none fits in
    false≢true (sym (rw (test, fewer) at off))

-- no bucket is to come
pub rest_ended : (v : Form) (bytes : List ℕ) (at k : ℕ) (u : Unit {0}) (f : Brz) → k ≡ 0 → end_at bytes at ≡ Ok u → rest_at v bytes at k f ≡ Ok f
unfolding rest_at
rest_ended v bytes at k u f none ended = rw (none, ended) refl

pub rest_trails : (v : Form) (bytes : List ℕ) (at k : ℕ) (f : Brz) (e : LoadFault) → k ≡ 0 → Fails e (end_at bytes at) → Fails e (rest_at v bytes at k f)
unfolding rest_at
rest_trails v bytes at k f e none fails = rw none (fails_then e _ _ fails)

-- a bucket that was read, and is the function's next one
pub rest_next : (v : Form) (bytes : List ℕ) (at left len : ℕ) (f g : Brz) (b : Bucket) → g ≡ with_bucket f b → left + 1 + length f.buckets ≡ bucket_count f.keys f.width → len ≡ bucket_len v b → bucket_at v bytes at f left ≡ Ok b → rest_at v bytes at (left_of f) f ≡ rest_at v bytes (at + len) (left_of g) g
rest_next v bytes at left len f g b is many size read =
    let moved : left ≡ left_of (with_bucket f b) = omega (arith, many, length-append f.buckets (b ∷ [])) in
    let more : left_of f ≡ suc left = omega (arith, many) in
    rest_step v bytes at left (left_of f) f b more read
    ∙ (ap (λ (k : ℕ). rest_at v bytes (at + k) left (with_bucket f b)) (sym size)
    ∙ (ap (λ (k : ℕ). rest_at v bytes (at + len) k (with_bucket f b)) moved
    ∙ ap (λ (h : Brz). rest_at v bytes (at + len) (left_of h) h) (sym is)))

-- no bucket is there yet
pub brz_begun : (v : Form) (bytes : List ℕ) (h : Header) (f : Brz) → f ≡ no_buckets h → brz_at v bytes h ≡ rest_at v bytes 24 (left_of f) f
unfolding brz_at
brz_begun v bytes h f is =
    let all : bucket_count h.keys h.b ≡ left_of (no_buckets h) = omega arith in
    ap (λ (k : ℕ). rest_at v bytes 24 k (no_buckets h)) all ∙ ap (λ (g : Brz). rest_at v bytes 24 (left_of g) g) (sym is)

-- the cells of an image are those of a bucket, if as many are not 3
pub crumbs_known : (bytes : List ℕ) (at size n : ℕ) (cells : List ℕ) → length cells ≡ n → AllBelow 4 cells → packed_at bytes at 4 4 n ≡ Ok (list_of (packed_byte 4 4 cells) (packed_len 4 n)) → count_by (is_busy 3) cells ≡ size → crumbs_at bytes at size n ≡ Ok cells
unfolding crumbs_at
crumbs_known bytes at size n cells long below there busy = rw (there, packed_of_image 4 4 n cells _ (lit< tt) (lit< tt) long below refl, eq-eqb _ _ busy) refl

pub crumbs_other : (bytes : List ℕ) (at size n : ℕ) (cells : List ℕ) → length cells ≡ n → AllBelow 4 cells → packed_at bytes at 4 4 n ≡ Ok (list_of (packed_byte 4 4 cells) (packed_len 4 n)) → (count_by (is_busy 3) cells ≡ size → ⊥) → crumbs_at bytes at size n ≡ Err (faults.BadCount at)
unfolding crumbs_at
crumbs_other bytes at size n cells long below there other = rw (there, packed_of_image 4 4 n cells _ (lit< tt) (lit< tt) long below refl, ne_eqb _ _ other) refl
