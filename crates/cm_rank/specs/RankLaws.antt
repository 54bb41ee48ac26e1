-- Lemmas about ranks, their samples and ranks in bytes. Crates that read ranks cite these, and no contract needs them.
use Rattle.std.specs.Prelude.{◌≡◌, ℕ, ◌+◌, ◌-◌, ◌*◌, ◌/◌, ◌^◌, ◌<◌, ◌≤◌, List, length, min, take, drop, slice_index}
use Rattle.std.specs.Int.{div_ceil, from_le_bytes, to_le_bytes, w32}
use Rattle.std.proofs.Common.{zero, suc, cond, arith, ap, sym, ◌∙◌, inl, inr, lit<}
use Rattle.std.proofs.Math.Nat.{div-mul-le_self}
use Rattle.std.proofs.lemmas.List.{get_or-drop, get_or-take, get_or_past, length-drop, length-take}
use Rattle.std.proofs.lemmas.Bool.{cases_lt}
use Rattle.std.proofs.lemmas.List.FromFn.{fill_by_all, get_or-map-range_with_len, length-map-range_with_len}
use Rattle.std.proofs.lemmas.List.Sums.{count_by-le-length, sum_by_more}
use Rattle.std.proofs.lemmas.Nat.{from_le_bytes-to_le_bytes_4, le_bytes_4, pow_pos}
use Rattle.cm_bits.specs.PackedLaws.{place_lt}
use Rattle.cm_bits.specs.declared.TheConstants.{MAX_CELLS}
use Rattle.cm_rank.specs.Ranks.{HoldRanks, Samples, StandsFor, rank_bytes, rank_in, rank_of, ranks_in, sampled, sampled_rank}
use Rattle.cm_spec.specs.Cells.{is_busy}

-- four bytes have room for a rank
pub rank_fits : (idle : ℕ) (cells : List ℕ) (i : ℕ) → length cells ≤ MAX_CELLS → rank_of idle cells i < 2 ^ 32
rank_fits idle cells i few = omega (arith, few, count_by-le-length (is_busy idle) (take i cells), length-take i cells)

pub length-ranks_in : (bytes : List ℕ) → length (ranks_in bytes) ≡ length bytes / 4
unfolding ranks_in
length-ranks_in bytes = length-map-range_with_len (rank_in bytes) 0 (length bytes / 4)

-- a rank of bytes is one of their list
pub rank_in_list : (bytes : List ℕ) (i : ℕ) → i < length (ranks_in bytes) → rank_in bytes i ≡ slice_index (ranks_in bytes) i
unfolding ranks_in
rank_in_list bytes i inside = sym (get_or-map-range_with_len (rank_in bytes) 0 (length bytes / 4) i i 0 (omega (arith, inside, length-ranks_in bytes)) (omega arith))

-- a byte of a list of bytes
byte_of_part : (bytes : List ℕ) (at n j : ℕ) → ((k : ℕ) → slice_index bytes k < 256) → slice_index (take n (drop at bytes)) j < 256
byte_of_part bytes at n j small = elim (cases_lt j n) [
  | inl l ↦ rw (get_or-take n (drop at bytes) j 0 l, get_or-drop at bytes j 0) (small (at + j))
  | inr l ↦ rw (get_or_past (take n (drop at bytes)) j 0 (omega (arith, length-take n (drop at bytes), l))) (lit< tt)
]

-- the bytes of a rank are those of its number
pub rank_written : (bytes : List ℕ) (i rank : ℕ) → ((k : ℕ) → slice_index bytes k < 256) → 4 * i + 4 ≤ length bytes → rank ≡ rank_in bytes i → rank_bytes bytes i ≡ to_le_bytes w32 rank
rank_written bytes i rank small inside is =
    sym (le_bytes_4 (rank_bytes bytes i) rank (omega (arith, length-take 4 (drop (4 * i) bytes), length-drop (4 * i) bytes, inside)) (λ j. byte_of_part bytes (4 * i) 4 j small) is)

-- a rank that is right is the number of its bytes
pub rank_right : (idle shift count i : ℕ) (cells bytes : List ℕ) → length cells ≤ MAX_CELLS → HoldRanks idle shift cells bytes count → i < count → rank_in bytes i ≡ rank_of idle cells (i * 2 ^ shift)
rank_right idle shift count i cells bytes few all inside =
    ap (from_le_bytes w32) (all i inside) ∙ from_le_bytes-to_le_bytes_4 (rank_of idle cells (i * 2 ^ shift)) (rank_fits idle cells (i * 2 ^ shift) few)

-- if all ranks of bytes are right, and there is one for each block of cells, they stand for the cells
pub stands_in_bytes : (idle shift : ℕ) (cells bytes : List ℕ) → length cells ≤ MAX_CELLS → HoldRanks idle shift cells bytes (length bytes / 4) → length bytes ≡ 4 * div_ceil (length cells) (2 ^ shift) → StandsFor (record { idle = idle; shift = shift; ranks = ranks_in bytes }) cells
unfolding ranks_in sampled
stands_in_bytes idle shift cells bytes few all long =
    let many : length bytes / 4 ≡ div_ceil (length cells) (2 ^ shift) = omega (arith, long) in
    fill_by_all (λ k. rank_of idle cells (k * 2 ^ shift)) (ranks_in bytes) (div_ceil (length cells) (2 ^ shift)) 0
    (length-ranks_in bytes ∙ many)
    (λ k l.
    let inside : k < length bytes / 4 = omega (arith, many, l, length-ranks_in bytes) in
    get_or-map-range_with_len (rank_in bytes) 0 (length bytes / 4) k k 0 inside (omega arith)
    ∙ rank_right idle shift (length bytes / 4) k cells bytes few all inside)

-- past a cell more
pub rank_more : (idle : ℕ) (cells : List ℕ) (i : ℕ) → i < length cells → rank_of idle cells (i + 1) ≡ rank_of idle cells i + cond (is_busy idle (slice_index cells i)) 1 0
rank_more idle cells i inside = sum_by_more (λ x. cond {A = ℕ} (is_busy idle x) 1 0) cells i 0 inside

-- ranks never fall
pub rank_rises : (idle : ℕ) (cells : List ℕ) (at n : ℕ) → at + n ≤ length cells → rank_of idle cells at ≤ rank_of idle cells (at + n)
rank_rises idle cells at zero inside = let none : at + 0 ≡ at = omega arith in rw none (omega arith)
rank_rises idle cells at (suc n) inside =
    let next : rank_of idle cells (at + suc n) ≡ rank_of idle cells (at + n + 1) = ap (rank_of idle cells) (omega arith) in
    omega (arith, next, rank_rises idle cells at n (omega arith), rank_more idle cells (at + n) (omega arith))

-- ranks that stand for cells are as many as the blocks
pub length-samples : (t : Samples) (cells : List ℕ) → StandsFor t cells → length t.ranks ≡ div_ceil (length cells) (2 ^ t.shift)
unfolding sampled
length-samples t cells stands = ap length stands ∙ length-map-range_with_len _ 0 _

-- each is that of its cell
pub sample_is : (t : Samples) (cells : List ℕ) (k : ℕ) → StandsFor t cells → k < length t.ranks → slice_index t.ranks k ≡ rank_of t.idle cells (k * 2 ^ t.shift)
unfolding sampled
sample_is t cells k stands inside =
    let f = λ (j : ℕ). rank_of t.idle cells (j * 2 ^ t.shift) in
    ap (λ (ranks : List ℕ). slice_index ranks k) stands ∙ get_or-map-range_with_len f 0 _ k k 0 (omega (arith, inside, length-samples t cells stands)) (omega arith)

-- each cell has a sample at it or before it
pub sample_there : (t : Samples) (cells : List ℕ) (i : ℕ) → StandsFor t cells → i < length cells → i / 2 ^ t.shift < length t.ranks
sample_there t cells i stands inside = omega (arith, place_lt (2 ^ t.shift) (length cells) i (pow_pos t.shift) inside, length-samples t cells stands)

-- the rank of the first cell of a block is no higher than that of a cell in it
rank_in_block : (idle step : ℕ) (cells : List ℕ) (i : ℕ) → i < length cells → rank_of idle cells (i / step * step) ≤ rank_of idle cells i
rank_in_block idle step cells i inside =
    let first : ℕ = i / step * step in
    let before : first ≤ i = div-mul-le_self i step in
    let place : first + (i - first) ≡ i = omega (arith, before) in
    rw place at (rank_rises idle cells first (i - first) (rw place (omega (arith, inside))))

-- that rank, and what is counted after it
pub rank_from_block : (idle shift : ℕ) (cells : List ℕ) (i rank : ℕ) → length cells ≤ MAX_CELLS → i < length cells
    → rank ≡ min (2 ^ 32 - 1) (rank_of idle cells (i / 2 ^ shift * 2 ^ shift) + (rank_of idle cells i - rank_of idle cells (i / 2 ^ shift * 2 ^ shift))) → rank ≡ rank_of idle cells i
rank_from_block idle shift cells i rank few inside is = omega (arith, is, rank_in_block idle (2 ^ shift) cells i inside, rank_fits idle cells i few)

-- ranks that stand for the cells give the rank of each cell
pub sampled_rank-stands : (t : Samples) (cells : List ℕ) (i : ℕ) → StandsFor t cells → i < length cells → sampled_rank t cells i ≡ rank_of t.idle cells i
unfolding sampled_rank
sampled_rank-stands t cells i stands inside =
    let step : ℕ = 2 ^ t.shift in
    omega (arith, sample_is t cells (i / step) stands (sample_there t cells i stands inside), rank_in_block t.idle step cells i inside)

-- and it fits in four bytes
pub sampled_rank-least : (t : Samples) (cells : List ℕ) (i : ℕ) → length cells ≤ MAX_CELLS → StandsFor t cells → i < length cells → min (2 ^ 32 - 1) (sampled_rank t cells i) ≡ rank_of t.idle cells i
sampled_rank-least t cells i few stands inside = rw (sampled_rank-stands t cells i stands inside) (omega (arith, rank_fits t.idle cells i few))
