-- Ranks of cells that are not 3.
use Rattle.std.proofs.Common.{◌≡◌, ◌≢◌, ℕ, ◌+◌, ◌<◌, ◌≤◌, List, length, ap, arith}
use Rattle.std.specs.Prelude.{not, slice_index}
use Rattle.std.specs.List.{count_by}
use Rattle.std.proofs.lemmas.Bool.{ne_eqb}
use Rattle.std.proofs.lemmas.List.Sums.{count_by_more_yes, sum_by-take-le}
use Rattle.cm_rank.specs.Ranks.{rank_of}
use Rattle.cm_spec.specs.Cells.{is_busy}

-- the rank of a cell that is not 3 is below the number of such cells
pub rank_below : (cells : List ℕ) (v m : ℕ) → v < length cells → slice_index cells v ≢ 3 → count_by (is_busy 3) cells ≡ m → rank_of 3 cells v < m
rank_below cells v m inside busy all =
    let past : rank_of 3 cells (v + 1) ≡ rank_of 3 cells v + 1 = count_by_more_yes (is_busy 3) cells v 0 inside (ap not (ne_eqb (slice_index cells v) 3 busy)) in
    let most : rank_of 3 cells (v + 1) ≤ count_by (is_busy 3) cells = sum_by-take-le _ cells (v + 1) in
    omega (arith, past, most, all)
