-- Lemmas about ranks of cells that are not 3. No contract needs them.
use Rattle.std.proofs.Common.{◌≡◌, ◌≢◌, ◌⊎◌, ℕ, ◌+◌, ◌<◌, ◌≤◌, List, length, take, inl, inr, ap, arith}
use Rattle.std.specs.Prelude.{not, slice_index}
use Rattle.std.specs.List.{count_by}
use Rattle.std.proofs.lemmas.Bool.{cases_lt, ne_eqb}
use Rattle.std.proofs.lemmas.List.{take-take}
use Rattle.std.proofs.lemmas.List.Sums.{count_by_more_yes, sum_by-take-le}
use Rattle.cm_rank.specs.Ranks.{rank_of}
use Rattle.cm_spec.specs.Cells.{is_busy}

-- past a cell that is not 3
rank_past : (cells : List ℕ) (v : ℕ) → v < length cells → slice_index cells v ≢ 3 → rank_of 3 cells (v + 1) ≡ rank_of 3 cells v + 1
rank_past cells v inside busy = count_by_more_yes (is_busy 3) cells v 0 inside (ap not (ne_eqb (slice_index cells v) 3 busy))

-- ranks rise with places
rank_rises : (cells : List ℕ) (v w : ℕ) → v ≤ w → rank_of 3 cells v ≤ rank_of 3 cells w
rank_rises cells v w order =
    let more : count_by (is_busy 3) (take v (take w cells)) ≤ count_by (is_busy 3) (take w cells) = sum_by-take-le _ (take w cells) v in
    rw (take-take v w cells order) at more

-- the rank of a cell that is not 3 is below the number of such cells
pub rank_below : (cells : List ℕ) (v m : ℕ) → v < length cells → slice_index cells v ≢ 3 → count_by (is_busy 3) cells ≡ m → rank_of 3 cells v < m
rank_below cells v m inside busy all =
    let past : rank_of 3 cells (v + 1) ≤ count_by (is_busy 3) cells = sum_by-take-le _ cells (v + 1) in
    omega (arith, rank_past cells v inside busy, past, all)

-- and no two of them have the same
pub rank_apart : (cells : List ℕ) (v w : ℕ) → v < length cells → slice_index cells v ≢ 3 → w < length cells → slice_index cells w ≢ 3 → rank_of 3 cells v ≡ rank_of 3 cells w → v ≡ w
rank_apart cells v w inside busy inside' busy' same = go (cases_lt v w) (cases_lt w v) where
  go : (v < w) ⊎ (w ≤ v) → (w < v) ⊎ (v ≤ w) → v ≡ w
  go (inl l) other = absurd (omega (arith, rank_past cells v inside busy, rank_rises cells (v + 1) w (omega arith), same))
  go (inr m) (inl l) = absurd (omega (arith, rank_past cells w inside' busy', rank_rises cells (w + 1) v (omega arith), same))
  go (inr m) (inr k) = omega arith
