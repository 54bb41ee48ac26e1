-- Pairs of bits of a number that are 3, and words of bytes that hold pairs of bits.
use Rattle.std.specs.Prelude.{◌≡◌, ℕ, zero, suc, ◌+◌, ◌-◌, ◌*◌, ◌/◌, ◌%◌, ◌^◌, ◌<◌, ◌≤◌, nat_eq, List, length, slice_index, count_by, drop, bit_and, refl}
use Rattle.std.proofs.Common.{arith, ap, sym, ◌∙◌, ⊎_elim, min, cond, lit<}
use Rattle.std.proofs.lemmas.Bool.{cases_lt, eqb-true}
use Rattle.std.proofs.lemmas.Nat.{and_block, and_le_r, and_mask, and_mod, and_shr, mod_below, ones-le, ones_cat, pow_pos, shr-shr, shr_split}
use Rattle.std.proofs.lemmas.List.{get_or-drop}
use Rattle.std.proofs.lemmas.List.FromFn.{fill_by_all, get_or-map-range_with_len, length-map-range_with_len, sum_by-map-range_with_len_more}
use Rattle.std.specs.Int.Count.{ones}
use Rattle.cm_bits.specs.ByteLaws.{all_below, passes}
use Rattle.cm_bits.specs.DigitsLaws.{digit-digits_sum, digits_sum-digits, digits_sum-lt, digits_sum-same, pow_pow, digits_sum-append}
use Rattle.cm_bits.specs.Held.{packed_cells, window_at}
use Rattle.cm_bits.specs.PackedLaws.{le-packed_len, length-packed_cells, packed_cells-at}
use Rattle.cm_rank.proofs.RankLemmas.{rank_run}
use Rattle.cm_rank.specs.Ranks.{crumbs_of, rank_of}
use Rattle.cm_spec.specs.Cells.{is_busy}
use Rattle.cm_spec.specs.Image.{digits_sum, packed_len}
use Rattle.cm_spec.specs.Lists.{list_of}

-- the lower bit of each of the lowest n pairs of bits
abbrev pub lower_bits : ℕ → ℕ
lower_bits n = digits_sum 4 (λ _. 1) n

-- those of a word, shifted in two steps
pub lower_bits-shifted : (n : ℕ) → n ≤ 32 → 6148914691236517205 / 2 ^ (32 - n) / 2 ^ (32 - n) ≡ lower_bits n
unfolding all_below digits_sum
lower_bits-shifted n l = eqb-true _ _ (passes (λ t. nat_eq (6148914691236517205 / 2 ^ (32 - t) / 2 ^ (32 - t)) (lower_bits t)) 33 n refl (omega arith))

-- the lowest bit of what a number shares with its half
shared : ℕ → ℕ
shared y = bit_and y (y / 2)

shared_low : (y : ℕ) → bit_and (shared y) 1 ≡ bit_and (y % 4 % 2) (y % 4 / 2)
unfolding shared
shared_low y =
    let first : y % 2 ≡ y % 4 % 2 = omega arith in
    let second : y / 2 % 2 ≡ y % 4 / 2 = omega arith in
    and_mask (bit_and y (y / 2)) 1 ∙ and_mod y (y / 2) 1 ∙ rw (first, second) refl

-- the lowest pair of bits is 3, or else it counts
lowest_pair : (y : ℕ) → ones (bit_and (shared y) 1) + cond (is_busy 3 (y % 4)) 1 0 ≡ 1
unfolding all_below ones
lowest_pair y = rw (shared_low y) (eqb-true _ _ (passes (λ r. nat_eq (ones (bit_and (r % 2) (r / 2)) + cond (is_busy 3 r) 1 0) 1) 4 (y % 4) refl (mod_below y 4 (lit< tt))))

-- the bits that a mask of one bit more leaves
mask_more : (k x m : ℕ) → m < 2 ^ k → ones (bit_and x (1 * 2 ^ k + m)) ≡ ones (bit_and (x / 2 ^ k) 1) + ones (bit_and x m)
mask_more k x m l =
    let below : x % 2 ^ k < 2 ^ k = mod_below x (2 ^ k) (pow_pos k) in
    let whole : x / 2 ^ k * 2 ^ k + x % 2 ^ k ≡ x = shr_split x k in
    let more : bit_and x (1 * 2 ^ k + m) ≡ bit_and (x / 2 ^ k) 1 * 2 ^ k + bit_and (x % 2 ^ k) m = ap (λ y. bit_and y (1 * 2 ^ k + m)) (sym whole) ∙ and_block k (x / 2 ^ k) 1 (x % 2 ^ k) m below l in
    let none : bit_and (x / 2 ^ k) 0 ≡ 0 = omega (arith, and_le_r (x / 2 ^ k) 0) in
    let zero_high : 0 * 2 ^ k + m ≡ m = omega arith in
    let rest : bit_and x m ≡ bit_and (x % 2 ^ k) m =
    ap (λ y. bit_and y m) (sym whole) ∙ ap (bit_and (x / 2 ^ k * 2 ^ k + x % 2 ^ k)) (sym zero_high) ∙ and_block k (x / 2 ^ k) 0 (x % 2 ^ k) m below l ∙ rw none (omega arith) in
    let small : bit_and (x % 2 ^ k) m < 2 ^ k = omega (arith, and_le_r (x % 2 ^ k) m, l) in
    rw (more, rest) (ones_cat k (bit_and (x / 2 ^ k) 1) (bit_and (x % 2 ^ k) m) small)

-- of the lowest n pairs of bits those that are 3, and the others
pub pairs : (w n : ℕ) → ones (bit_and (bit_and w (w / 2)) (lower_bits n)) + count_by (is_busy 3) (crumbs_of w n) ≡ n
unfolding digits_sum shared
pairs w zero = let none : bit_and (bit_and w (w / 2)) 0 ≡ 0 = omega (arith, and_le_r (bit_and w (w / 2)) 0) in rw none (omega (arith, ones-le 0 0 (lit< tt)))
pairs w (suc n) =
    let power : 4 ^ n ≡ 2 ^ (2 * n) = sym (pow_pow 2 2 n) in
    let mask_below : lower_bits n < 2 ^ (2 * n) = rw (← power) (digits_sum-lt 4 (λ _. 1) n (λ i l. lit< tt)) in
    let next : suc n ≡ n + 1 = omega arith in
    let mask : lower_bits (suc n) ≡ 1 * 2 ^ (2 * n) + lower_bits n = rw (← power) (omega arith) in
    let high : bit_and w (w / 2) / 2 ^ (2 * n) ≡ shared (w / 2 ^ (2 * n)) =
    and_shr w (w / 2) (2 * n) ∙ ap (bit_and (w / 2 ^ (2 * n))) (shr-shr w 1 (2 * n) ∙ ap (λ k. w / 2 ^ k) (omega arith) ∙ sym (shr-shr w (2 * n) 1)) in
    let bits : ones (bit_and (bit_and w (w / 2)) (lower_bits (suc n))) ≡ ones (bit_and (shared (w / 2 ^ (2 * n))) 1) + ones (bit_and (bit_and w (w / 2)) (lower_bits n)) =
    ap (λ m. ones (bit_and (bit_and w (w / 2)) m)) mask ∙ mask_more (2 * n) (bit_and w (w / 2)) (lower_bits n) mask_below ∙ ap (λ y. ones (bit_and y 1) + ones (bit_and (bit_and w (w / 2)) (lower_bits n))) high in
    let count : count_by (is_busy 3) (crumbs_of w (suc n)) ≡ count_by (is_busy 3) (crumbs_of w n) + cond (is_busy 3 (w / 4 ^ n % 4)) 1 0 =
    ap (λ k. count_by (is_busy 3) (crumbs_of w k)) next ∙ sum_by-map-range_with_len_more (λ x. cond {A = ℕ} (is_busy 3 x) 1 0) (λ i. w / 4 ^ i % 4) 0 n n (omega arith) in
    let top : ones (bit_and (shared (w / 2 ^ (2 * n))) 1) + cond (is_busy 3 (w / 4 ^ n % 4)) 1 0 ≡ 1 = rw power (lowest_pair (w / 2 ^ (2 * n))) in
    omega (arith, bits, count, top, pairs w n)

-- digits in groups
digits_of_digits : (d p : ℕ) (f : ℕ → ℕ) (n : ℕ) → digits_sum (d ^ p) (λ k. digits_sum d (λ i. f (p * k + i)) p) n ≡ digits_sum d f (p * n)
unfolding digits_sum
digits_of_digits d p f zero = let none : p * 0 ≡ 0 = omega arith in rw none refl
digits_of_digits d p f (suc n) =
    let more : p * suc n ≡ p * n + p = omega arith in
    rw (more, digits_sum-append d f (p * n) p, pow_pow d p n, digits_of_digits d p f n) refl

-- eight bytes are the number of their 32 pairs of bits
window_of_pairs : (bytes : List ℕ) (q : ℕ) → ((k : ℕ) → slice_index bytes k < 256) → window_at bytes q ≡ digits_sum 4 (λ i. slice_index bytes (q + i / 4) / 4 ^ (i % 4) % 4) 32
unfolding window_at
window_of_pairs bytes q small =
    let f = λ (i : ℕ). slice_index bytes (q + i / 4) / 4 ^ (i % 4) % 4 in
    digits_sum-same 256 (λ k. slice_index bytes (q + k)) (λ k. digits_sum 4 (λ i. f (4 * k + i)) 4) 8 (λ k m.
    sym (digits_sum-digits 4 4 (slice_index bytes (q + k)) (lit< tt) (small (q + k)))
    ∙ digits_sum-same 4 (λ i. slice_index bytes (q + k) / 4 ^ i % 4) (λ i. f (4 * k + i)) 4 (λ i h.
    let byte : (4 * k + i) / 4 ≡ k = omega (arith, h) in
    let place : (4 * k + i) % 4 ≡ i = omega (arith, h) in
    rw (byte, place) refl))
    ∙ digits_of_digits 4 4 f 8

-- so the pairs of bits of a word are those of the bytes
pub crumbs_of_bytes : (bytes : List ℕ) (q n : ℕ) → ((k : ℕ) → slice_index bytes k < 256) → n ≤ 32 → crumbs_of (window_at bytes q) n ≡ packed_cells 4 4 n (drop q bytes)
unfolding packed_cells
crumbs_of_bytes bytes q n small few =
    let f = λ (i : ℕ). slice_index bytes (q + i / 4) / 4 ^ (i % 4) % 4 in
    fill_by_all (λ i. slice_index (drop q bytes) (i / 4) / 4 ^ (i % 4) % 4) (crumbs_of (window_at bytes q) n) n 0 (length-map-range_with_len _ 0 n) (λ k l.
    get_or-map-range_with_len (λ i. window_at bytes q / 4 ^ i % 4) 0 n k k 0 l (omega arith)
    ∙ ap (λ w. w / 4 ^ k % 4) (window_of_pairs bytes q small)
    ∙ digit-digits_sum 4 f 32 k (lit< tt) (λ j m. mod_below (slice_index bytes (q + j / 4) / 4 ^ (j % 4)) 4 (lit< tt)) (omega (arith, l, few))
    ∙ ap (λ b. b / 4 ^ (k % 4) % 4) (sym (get_or-drop q bytes (k / 4) 0)))

-- the rank past some of the cells from a byte on
cells_busy : (cells bytes : List ℕ) (q n : ℕ) → cells ≡ packed_cells 4 4 (length cells) bytes → 4 * q + n ≤ length cells → rank_of 3 cells (4 * q) + count_by (is_busy 3) (packed_cells 4 4 n (drop q bytes)) ≡ rank_of 3 cells (4 * q + n)
cells_busy cells bytes q n held inside =
    let f = λ (i : ℕ). slice_index cells (4 * q + i) in
    let same : packed_cells 4 4 n (drop q bytes) ≡ list_of f n =
    fill_by_all f (packed_cells 4 4 n (drop q bytes)) n 0 (length-packed_cells 4 4 n (drop q bytes)) (λ k l.
    let byte : (4 * q + k) / 4 ≡ q + k / 4 = omega arith in
    let place : (4 * q + k) % 4 ≡ k % 4 = omega arith in
    let cell : slice_index (packed_cells 4 4 (length cells) bytes) (4 * q + k) ≡ slice_index bytes (q + k / 4) / 4 ^ (k % 4) % 4 =
    packed_cells-at 4 4 (length cells) bytes (4 * q + k) (omega (arith, l, inside)) ∙ rw (byte, place) refl in
    packed_cells-at 4 4 n (drop q bytes) k l
    ∙ ap (λ b. b / 4 ^ (k % 4) % 4) (get_or-drop q bytes (k / 4) 0)
    ∙ sym cell
    ∙ ap (λ (xs : List ℕ). slice_index xs (4 * q + k)) (sym held)) in
    rw same (rank_run 3 cells (4 * q) n inside)

-- the same for the cells from a place on that a byte begins with
pub word_busy : (cells bytes : List ℕ) (from n count : ℕ) → cells ≡ packed_cells 4 4 (length cells) bytes → from % 4 ≡ 0 → from + n ≤ length cells → count ≡ count_by (is_busy 3) (packed_cells 4 4 n (drop (from / 4) bytes)) → rank_of 3 cells from + count ≡ rank_of 3 cells (from + n)
word_busy cells bytes from n count held whole inside is =
    let place : 4 * (from / 4) ≡ from = omega arith in
    let busy = cells_busy cells bytes (from / 4) n held (rw place inside) in
    rw is (rw place at busy)

-- eight bytes are there if all 32 cells of a word are
pub word_there : (from n len : ℕ) → len ≡ packed_len 4 n → from + 32 ≤ n → from / 4 + 8 ≤ len
word_there from n len whole inside = omega (arith, le-packed_len 4 n (lit< tt))

-- one word more of a count that reads each word, if this many cells are counted
pub words_more : (cells bytes : List ℕ) (from left k n count more : ℕ) → cells ≡ packed_cells 4 4 (length cells) bytes
    → from % 4 ≡ 0 → from + left ≤ length cells → n ≡ min (left - 32 * k) 32
    → more ≡ count_by (is_busy 3) (packed_cells 4 4 n (drop (from / 4 + 8 * k) bytes)) → more ≤ n
    → rank_of 3 cells from + count ≡ rank_of 3 cells (from + min left (32 * k))
    → rank_of 3 cells from + (count + more) ≡ rank_of 3 cells (from + min left (32 * (k + 1)))
words_more cells bytes from left k n count more held whole inside many is most was = ⊎_elim
    (λ some.
    let place : (from + 32 * k) / 4 ≡ from / 4 + 8 * k = omega (arith, whole) in
    let busy = word_busy cells bytes (from + 32 * k) n more held (omega (arith, whole)) (omega (arith, inside, many, some)) (is ∙ ap (λ (q : ℕ). count_by (is_busy 3) (packed_cells 4 4 n (drop q bytes))) (sym place)) in
    let old : rank_of 3 cells (from + min left (32 * k)) ≡ rank_of 3 cells (from + 32 * k) = ap (λ (i : ℕ). rank_of 3 cells i) (omega (arith, some)) in
    let new : rank_of 3 cells (from + 32 * k + n) ≡ rank_of 3 cells (from + min left (32 * (k + 1))) = ap (λ (i : ℕ). rank_of 3 cells i) (omega (arith, some, many)) in
    omega (arith, was, busy, old, new))
    (λ over.
    let none : more ≡ 0 = omega (arith, many, over, most) in
    let same : rank_of 3 cells (from + min left (32 * k)) ≡ rank_of 3 cells (from + min left (32 * (k + 1))) = ap (λ (i : ℕ). rank_of 3 cells i) (omega (arith, over)) in
    omega (arith, was, none, same))
    (cases_lt (32 * k) left)
