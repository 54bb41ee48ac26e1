-- What the bytes after a header spell.
use Rattle.std.proofs.Common.{◌≡◌, ℕ, ◌+◌, ◌*◌, ◌≤◌, List, length, ap, refl, lit<, Ok}
use Rattle.cm_bdz.specs.Functions.{Bdz, BdzPh}
use Rattle.cm_bits.specs.Bound.{AllBelow}
use Rattle.cm_dump_images.specs.Images.{fields_at, packed_at}
use Rattle.cm_dump_images.specs.ImageLaws.{cells_of_image, packed_of_image}
use Rattle.cm_dump_items.specs.Reading.{◌>>=◌, end_at}
use Rattle.cm_spec.specs.declared.limits.TheConstants.{MAX_KEYS}
use Rattle.cm_rank.specs.Ranks.{sampled}
use Rattle.cm_spec.specs.Bdz.{bdz_size}
use Rattle.cm_spec.specs.Chm.{Chm, chm_size}
use Rattle.cm_spec.specs.Image.{width_of, fields_len, fields_byte, packed_len, packed_byte}
use Rattle.cm_spec.specs.Lists.{list_of}
use Rattle.cm_dump.specs.declared.front.Header.{Header}
use Rattle.cm_dump.specs.Spelling.{chm_at, counted, ranks_at, bdz_at, bdz_ph_at, ranked_at}

-- functions of the same numbers and cells
chm_of : (f : Chm) (k r s : ℕ) (xs : List ℕ) → f.keys ≡ k → f.ratio ≡ r → f.seed ≡ s → f.cells ≡ xs → (let a : Chm = record { keys = k; ratio = r; seed = s; cells = xs } in a) ≡ (let b : Chm = record { keys = f.keys; ratio = f.ratio; seed = f.seed; cells = f.cells } in b)
chm_of f k r s xs is_k is_r is_s is_xs = rw (is_k, is_r, is_s, is_xs) refl

bdz_ph_of : (f : BdzPh) (k r s : ℕ) (xs : List ℕ) → f.keys ≡ k → f.ratio ≡ r → f.seed ≡ s → f.cells ≡ xs → (let a : BdzPh = record { keys = k; ratio = r; seed = s; cells = xs } in a) ≡ (let b : BdzPh = record { keys = f.keys; ratio = f.ratio; seed = f.seed; cells = f.cells } in b)
bdz_ph_of f k r s xs is_k is_r is_s is_xs = rw (is_k, is_r, is_s, is_xs) refl

-- the function has the numbers of a header, and these cells
pub record IsChmOf (h : Header) (xs : List ℕ) (f : Chm) : Type 0 where
  pub keys : f.keys ≡ h.keys
  pub ratio : f.ratio ≡ h.ratio
  pub seed : f.seed ≡ h.seed
  pub cells : f.cells ≡ xs

pub record IsBdzPhOf (h : Header) (xs : List ℕ) (f : BdzPh) : Type 0 where
  pub keys : f.keys ≡ h.keys
  pub ratio : f.ratio ≡ h.ratio
  pub seed : f.seed ≡ h.seed
  pub cells : f.cells ≡ xs

-- the image of cells, and then the end
pub chm_known : (bytes : List ℕ) (h : Header) (xs : List ℕ) (f : Chm) → h.keys ≤ MAX_KEYS → length xs ≡ chm_size h.keys h.ratio → AllBelow h.keys xs
    → fields_at bytes 24 (chm_size h.keys h.ratio) h.keys ≡ Ok (list_of (fields_byte (width_of h.keys) xs) (fields_len (width_of h.keys) (chm_size h.keys h.ratio)))
    → end_at bytes (24 + fields_len (width_of h.keys) (chm_size h.keys h.ratio)) ≡ Ok tt → IsChmOf h xs f → chm_at bytes h ≡ Ok f
unfolding chm_at
chm_known bytes h xs f small size below there ended of =
    rw (there, ended, cells_of_image h.keys (chm_size h.keys h.ratio) xs _ small size below refl) (ap Ok (chm_of f h.keys h.ratio h.seed xs of.keys of.ratio of.seed of.cells))

-- cells that are as many, then ranks, and then the end
pub ranked_known : (bytes : List ℕ) (h : Header) (cells ranks : List ℕ) (f : Bdz) → counted h cells ≡ Ok f → ranks ≡ sampled 3 f.shift f.cells
    → ranked_at bytes h cells ≡ (ranks_at bytes (24 + packed_len 4 (length cells)) ranks >>= (λ _. end_at bytes (24 + packed_len 4 (length cells) + 4 * length ranks) >>= (λ _. Ok f)))
unfolding ranked_at
ranked_known bytes h cells ranks f count are = rw (count, are) refl

-- the image of cells
pub bdz_known : (bytes : List ℕ) (h : Header) (xs : List ℕ) → length xs ≡ bdz_size h.keys h.ratio → AllBelow 4 xs
    → packed_at bytes 24 4 4 (bdz_size h.keys h.ratio) ≡ Ok (list_of (packed_byte 4 4 xs) (packed_len 4 (bdz_size h.keys h.ratio))) → bdz_at bytes h ≡ ranked_at bytes h xs
unfolding bdz_at
bdz_known bytes h xs size below there = rw (there, packed_of_image 4 4 (bdz_size h.keys h.ratio) xs _ (lit< tt) (lit< tt) size below refl) refl

-- the image of cells, and then the end
pub bdz_ph_known : (bytes : List ℕ) (h : Header) (xs : List ℕ) (f : BdzPh) → length xs ≡ bdz_size h.keys h.ratio → AllBelow 3 xs
    → packed_at bytes 24 3 5 (bdz_size h.keys h.ratio) ≡ Ok (list_of (packed_byte 3 5 xs) (packed_len 5 (bdz_size h.keys h.ratio)))
    → end_at bytes (24 + packed_len 5 (bdz_size h.keys h.ratio)) ≡ Ok tt → IsBdzPhOf h xs f → bdz_ph_at bytes h ≡ Ok f
unfolding bdz_ph_at
bdz_ph_known bytes h xs f size below there ended of =
    rw (there, ended, packed_of_image 3 5 (bdz_size h.keys h.ratio) xs _ (lit< tt) (lit< tt) size below refl) (ap Ok (bdz_ph_of f h.keys h.ratio h.seed xs of.keys of.ratio of.seed of.cells))
