-- Lemmas about cells of four bytes.
use Rattle.std.specs.Prelude.{◌≡◌, ℕ, ◌+◌, ◌*◌, ◌/◌, ◌%◌, ◌^◌, ◌<◌, List, length, slice_index, refl, nat_le, None}
use Rattle.std.specs.List.{position_or_len}
use Rattle.std.proofs.Common.{arith, ◌∙◌, lit<}
use Rattle.std.proofs.lemmas.Bool.{lt-leb}
use Rattle.std.proofs.lemmas.List.{ext_get_or}
use Rattle.std.proofs.lemmas.List.FromFn.{length-map-range_with_len, get_or-map-range_with_len}
use Rattle.std.proofs.lemmas.List.Sums.{position_or_len_is}
use Rattle.cm_spec.specs.Image.{plain_byte}
use Rattle.cm_spec.specs.Lists.{list_of}
use Rattle.cm_bits.specs.Bound.{AllBelow}
use Rattle.cm_bits.specs.Fault.{plain_cell, plain_fault}
use Rattle.cm_bits.specs.DigitsLaws.{digits_sum-same, digits_sum-digits, same_from_digits}
use Rattle.cm_bits.specs.FaultLaws.{no_fault}

-- lists of numbers below 2 ^ 32 with one length are equal if their plain bytes are
pub plain_image : (xs ys : List ℕ) → length xs ≡ length ys → ((k : ℕ) → k < length xs → slice_index xs k < 2 ^ 32) → ((k : ℕ) → k < length ys → slice_index ys k < 2 ^ 32) → ((q : ℕ) → q < 4 * length xs → plain_byte xs q ≡ plain_byte ys q) → xs ≡ ys
unfolding plain_byte
plain_image xs ys n a b h =
    ext_get_or 0 xs ys n (λ k l.
    same_from_digits 256 4 _ _ (lit< tt) (a k l) (b k (omega arith)) (λ i m.
    let place : (4 * k + i) / 4 ≡ k = omega arith in
    let part : (4 * k + i) % 4 ≡ i = omega arith in
    rw (place, part) at (h (4 * k + i) (omega arith))))

-- lists of cells with one length and bound are equal if their plain bytes are
pub same_plain : (b : ℕ) (xs ys : List ℕ) → b < 2 ^ 32 → length xs ≡ length ys → AllBelow b xs → AllBelow b ys → ((q : ℕ) → q < 4 * length xs → plain_byte xs q ≡ plain_byte ys q) → xs ≡ ys
same_plain b xs ys f n h l e =
    plain_image xs ys n (λ k m. omega (arith, h k m)) (λ k m. omega (arith, l k m)) e

-- cell i of an image is the cell
plain_cell-image : (xs : List ℕ) (i : ℕ) → AllBelow (2 ^ 32) xs → i < length xs → plain_cell (list_of (plain_byte xs) (4 * length xs)) i ≡ slice_index xs i
unfolding plain_byte
plain_cell-image xs i b l =
    digits_sum-same 256 _ (λ k. slice_index xs i / 256 ^ k % 256) 4 (λ k m.
    let place : (4 * i + k) / 4 ≡ i = omega arith in
    let part : (4 * i + k) % 4 ≡ k = omega arith in
    get_or-map-range_with_len (λ q. slice_index xs (q / 4) / 256 ^ (q % 4) % 256) 0 (4 * length xs) (4 * i + k) (4 * i + k) 0 (omega arith) (omega arith)
    ∙ rw (place, part) refl)
    ∙ digits_sum-digits 256 4 (slice_index xs i) (lit< tt) (b i l)

-- the first n cells are all below the bound
all_sound : (bound n : ℕ) (f : ℕ → ℕ) → ((k : ℕ) → k < n → f k < bound) → position_or_len (λ c. nat_le bound c) (list_of f n) ≡ n
all_sound bound n f h =
    let len : length (list_of f n) ≡ n = length-map-range_with_len f 0 n in
    position_or_len_is _ (list_of f n) n 0 (omega arith)
    (λ k l. rw (get_or-map-range_with_len f 0 n k k 0 l (omega arith)) (lt-leb bound (f k) (h k l)))
    (λ l. absurd (omega arith))

-- plain bytes whose cells are below the bound have no fault
pub plain_fault-none : (n bound : ℕ) (bytes : List ℕ) → ((k : ℕ) → k < n → plain_cell bytes k < bound) → plain_fault n bound bytes ≡ None
unfolding plain_fault
plain_fault-none n bound bytes h =
    let e : position_or_len (λ c. nat_le bound c) (list_of (plain_cell bytes) n) ≡ n = all_sound bound n (plain_cell bytes) h in
    no_fault n _ 0 0 (omega arith) refl

-- plain bytes of cells below the bound have no fault
pub plain_fault-image : (b : ℕ) (xs : List ℕ) → b < 2 ^ 32 → AllBelow b xs → plain_fault (length xs) b (list_of (plain_byte xs) (4 * length xs)) ≡ None
plain_fault-image b xs f l =
    plain_fault-none (length xs) b _ (λ k m.
    rw (plain_cell-image xs k (λ j n. omega (arith, l j n)) m) (l k m))

-- the first byte of a cell is one of the image
pub plain_byte_lt : (n i : ℕ) → i < n → 4 * i < 4 * n
plain_byte_lt n i l = omega arith
