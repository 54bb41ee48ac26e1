-- Ranks of some cells more, and the samples of n blocks.
use Rattle.std.proofs.Common.{◌≡◌, ◌∙◌, ℕ, zero, suc, cond, take, ◌+◌, ◌-◌, ◌*◌, ◌/◌, ◌%◌, ◌^◌, ◌<◌, ◌≤◌, List, [], ◌∷◌, ◌++◌, length, inl, inr, refl, ap, sym, arith}
use Rattle.std.specs.Prelude.{min, slice_index, count_by}
use Rattle.std.specs.Int.{div_ceil}
use Rattle.std.proofs.Math.Nat.{div-add-mod, le-mul_of_pos_right, mul-le-mul_left}
use Rattle.std.proofs.Math.Seq.{take-length}
use Rattle.std.proofs.lemmas.List.{length-take, take_all}
use Rattle.std.proofs.lemmas.Bool.{cases_lt}
use Rattle.std.proofs.lemmas.List.FromFn.{map-range_with_len_more, sum_by-map-range_with_len_more}
use Rattle.std.proofs.lemmas.List.Sums.{count_by-le-length}
use Rattle.std.proofs.lemmas.Nat.{one_shl}
use Rattle.cm_rank.specs.RankLaws.{rank_more}
use Rattle.cm_rank.specs.Ranks.{Samples, rank_of, sampled, sampled_rank}
use Rattle.cm_spec.specs.Cells.{is_busy}
use Rattle.cm_spec.specs.Lists.{list_of}

-- a step that is got by a shift
pub step_is : (b : ℕ) → b ≤ 10 → 1 * 2 ^ b % 2 ^ 32 ≡ 2 ^ b
step_is b small = one_shl b 32 (omega arith)

-- past n cells more
pub rank_run : (idle : ℕ) (cells : List ℕ) (at n : ℕ) → at + n ≤ length cells → rank_of idle cells at + count_by (is_busy idle) (list_of (λ i. slice_index cells (at + i)) n) ≡ rank_of idle cells (at + n)
rank_run idle cells at zero inside = let none : at + 0 ≡ at = omega arith in rw none (omega arith)
rank_run idle cells at (suc n) inside =
    let f = λ (i : ℕ). slice_index cells (at + i) in
    let next : suc n ≡ n + 1 = omega arith in
    let rank : rank_of idle cells (at + suc n) ≡ rank_of idle cells (at + n + 1) = ap (rank_of idle cells) (omega arith) in
    let count : count_by (is_busy idle) (list_of f (suc n)) ≡ count_by (is_busy idle) (list_of f n) + cond (is_busy idle (slice_index cells (at + n))) 1 0 =
    ap (λ k. count_by (is_busy idle) (list_of f k)) next ∙ sum_by-map-range_with_len_more (λ x. cond {A = ℕ} (is_busy idle x) 1 0) f 0 n n (omega arith) in
    omega (arith, rank, count, rank_run idle cells at n (omega arith), rank_more idle cells (at + n) (omega arith))

-- a rank is no higher than its place
pub rank_le : (idle : ℕ) (cells : List ℕ) (i : ℕ) → rank_of idle cells i ≤ i
rank_le idle cells i = omega (arith, count_by-le-length (is_busy idle) (take i cells), length-take i cells)

-- nor than the number of cells
pub rank_le_all : (idle : ℕ) (cells : List ℕ) (i : ℕ) → rank_of idle cells i ≤ length cells
rank_le_all idle cells i = omega (arith, count_by-le-length (is_busy idle) (take i cells), length-take i cells)

-- past the last cell ranks rise no more
pub rank_past_all : (idle : ℕ) (cells : List ℕ) (i : ℕ) → length cells ≤ i → rank_of idle cells i ≡ rank_of idle cells (length cells)
rank_past_all idle cells i past = ap (count_by (is_busy idle)) (take_all i cells past ∙ sym (take-length cells))

-- the first k samples, step apart
abbrev pub samples_to : ℕ → List ℕ → ℕ → ℕ → List ℕ
samples_to idle cells step k = list_of (λ j. rank_of idle cells (j * step)) k

pub samples_more : (step idle k : ℕ) (cells ranks new : List ℕ) (rank : ℕ) → rank ≡ rank_of idle cells (k * step) → ranks ≡ samples_to idle cells step k → new ≡ ranks ++ rank ∷ [] → new ≡ samples_to idle cells step (k + 1)
samples_more step idle k cells ranks new rank is so_far pushed = rw (pushed, so_far, is) (sym (map-range_with_len_more (λ j. rank_of idle cells (j * step)) 0 k k (omega arith)))

-- a block starts at a cell
pub block_within : (step len k : ℕ) → 0 < step → k < div_ceil len step → k * step < len
block_within step len k some l =
    let parts : step * (len / step) + len % step ≡ len = div-add-mod len step in
    elim (cases_lt k (len / step)) [
      | inl m ↦ let below : step * (k + 1) ≤ step * (len / step) = mul-le-mul_left step (omega arith) in omega (arith, below, parts)
      | inr m ↦ let last : k ≡ len / step = omega arith in let part : 0 < len % step = omega arith in rw last (omega (arith, parts, part))
    ]

-- and ends at the next, or at the last cell
pub block_end : (idle step k : ℕ) (cells : List ℕ) → rank_of idle cells (min (length cells) (k * step + step)) ≡ rank_of idle cells ((k + 1) * step)
block_end idle step k cells =
    let next : (k + 1) * step ≡ k * step + step = omega arith in
    elim (cases_lt (k * step + step) (length cells)) [
      | inl l ↦ let least : min (length cells) (k * step + step) ≡ k * step + step = omega arith in rw (least, next) refl
      | inr l ↦ let least : min (length cells) (k * step + step) ≡ length cells = omega arith in rw (least, next) (sym (rank_past_all idle cells (k * step + step) l))
    ]

-- there are no more blocks than cells
pub few_blocks : (step len : ℕ) → 0 < step → div_ceil len step ≤ len
few_blocks step len some =
    let parts : step * (len / step) + len % step ≡ len = div-add-mod len step in
    let less : len / step ≤ len / step * step = le-mul_of_pos_right (len / step) some in
    omega arith

-- the samples of all blocks are what a table of ranks has
pub stands_for : (step idle shift k : ℕ) (cells ranks : List ℕ) → k ≡ div_ceil (length cells) step → step ≡ 2 ^ shift → ranks ≡ samples_to idle cells step k → ranks ≡ sampled idle shift cells
unfolding sampled
stands_for step idle shift k cells ranks all step_is is = rw (is, all, step_is) refl

-- a sample, and what is counted after it
pub sampled_rank_is : (t : Samples) (cells : List ℕ) (i sample rank : ℕ) → sample ≡ slice_index t.ranks (i / 2 ^ t.shift) → rank ≡ min 4294967295 (sample + (rank_of t.idle cells i - rank_of t.idle cells (i / 2 ^ t.shift * 2 ^ t.shift))) → rank ≡ min 4294967295 (sampled_rank t cells i)
unfolding sampled_rank
sampled_rank_is t cells i sample rank read is = rw read at is
