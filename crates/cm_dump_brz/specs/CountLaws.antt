-- Lemmas about cells that are counted, which the proofs of readers of lent bytes cite. No contract needs them.
use Rattle.std.proofs.Common.{◌≡◌, ℕ, ◌+◌, List, length, ap, arith, count_by}
use Rattle.std.proofs.lemmas.List.{take_all}
use Rattle.cm_rank.specs.Ranks.{rank_of}
use Rattle.cm_spec.specs.Cells.{is_busy}

-- all cells of a table that are not 3
pub count_is : (table cells : List ℕ) (n k : ℕ) → table ≡ cells → length cells ≡ n → rank_of 3 table 0 + k ≡ rank_of 3 table n → k ≡ count_by (is_busy 3) cells
count_is table cells n k same long is =
    let all : rank_of 3 cells n ≡ count_by (is_busy 3) cells = ap (count_by (is_busy 3)) (take_all n cells (omega (arith, long))) in
    omega (arith, rw same at is, all)
