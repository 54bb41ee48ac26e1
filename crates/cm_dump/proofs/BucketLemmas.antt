-- Buckets as bytes.
use Rattle.std.proofs.Common.{◌≡◌, ◌∙◌, ℕ, ◌+◌, ◌<◌, List, [], ◌∷◌, ◌++◌, length, take, drop, ap, sym, arith, length-append, append_assoc, append-nil, w32}
use Rattle.std.specs.Int.{to_le_bytes}
use Rattle.std.specs.List.{flat_map}
use Rattle.std.specs.Prelude.{slice_index_or}
use Rattle.std.proofs.lemmas.Grind.{flat_map-append}
use Rattle.std.proofs.lemmas.List.{take_more, take-append-drop}
use Rattle.cm_brz_func.specs.Functions.{Bucket, no_bucket}
use Rattle.cm_dump.specs.Dumps.{bucket_image, buckets_image, packed_image}
use Rattle.cm_dump.specs.Spelling.{bucket_len}
use Rattle.cm_dump.specs.Forms.{Form}
use Rattle.cm_dump.proofs.DumpLemmas.{length-packed_image}
use Rattle.cm_dump.proofs.FormLemmas.{IsForm}

pub length-bucket_image : (v : Form) → IsForm v → (b : Bucket) → length (bucket_image v b) ≡ bucket_len v b
unfolding bucket_image
length-bucket_image v known b =
    omega (arith, length-append (to_le_bytes v.size b.size) (to_le_bytes w32 b.seed ++ packed_image 4 4 b.cells), known.size.long b.size, length-append (to_le_bytes w32 b.seed) (packed_image 4 4 b.cells), length-packed_image 4 4 b.cells)

-- the first buckets and one more
pub buckets_more : (v : Form) (bs : List Bucket) (j : ℕ) → j < length bs → buckets_image v (take j bs) ++ bucket_image v (slice_index_or bs j no_bucket) ≡ buckets_image v (take (j + 1) bs)
unfolding buckets_image
buckets_more v bs j inside =
    let b : Bucket = slice_index_or bs j no_bucket in
    ap (λ (l : List ℕ). flat_map (bucket_image v) (take j bs) ++ l) (sym (append-nil (bucket_image v b))) ∙ (sym (flat_map-append (bucket_image v) (take j bs) (b ∷ [])) ∙ ap (flat_map (bucket_image v)) (sym (take_more bs j no_bucket inside)))

-- the first buckets, one more and the rest
pub buckets_whole : (v : Form) (bs : List Bucket) (j : ℕ) → j < length bs → buckets_image v (take j bs) ++ (bucket_image v (slice_index_or bs j no_bucket) ++ buckets_image v (drop (j + 1) bs)) ≡ buckets_image v bs
unfolding buckets_image
buckets_whole v bs j inside =
    let f : List Bucket → List ℕ = flat_map (bucket_image v) in
    let b : Bucket = slice_index_or bs j no_bucket in
    sym (append_assoc (f (take j bs)) (bucket_image v b) (f (drop (j + 1) bs)))
    ∙ (ap (λ (l : List ℕ). l ++ f (drop (j + 1) bs)) (buckets_more v bs j inside)
    ∙ (sym (flat_map-append (bucket_image v) (take (j + 1) bs) (drop (j + 1) bs)) ∙ ap f (take-append-drop (j + 1) bs)))

pub length-buckets_more : (v : Form) → IsForm v → (bs : List Bucket) (j : ℕ) → j < length bs → length (buckets_image v (take (j + 1) bs)) ≡ length (buckets_image v (take j bs)) + bucket_len v (slice_index_or bs j no_bucket)
length-buckets_more v known bs j inside =
    ap length (sym (buckets_more v bs j inside)) ∙ (length-append (buckets_image v (take j bs)) (bucket_image v (slice_index_or bs j no_bucket)) ∙ ap (λ (n : ℕ). length (buckets_image v (take j bs)) + n) (length-bucket_image v known (slice_index_or bs j no_bucket)))
