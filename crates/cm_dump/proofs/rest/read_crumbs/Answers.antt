use Rattle.std.proofs.Common.{◌≡◌, ◌∙◌, ◌+◌, ℕ, List, length, ap, arith, lit<, count_by}
use Rattle.std.proofs.lemmas.List.{take_all}
use Rattle.cm_bits.specs.Held.{packed_cells}
use Rattle.cm_bits.specs.PackedLaws.{AllBelow-packed_cells}
use Rattle.cm_dump_images.specs.Images.{image_at, packed_at}
use Rattle.cm_dump_images.specs.ImageLaws.{packed_near}
use Rattle.cm_dump_items.specs.Reading.{item_at}
use Rattle.cm_dump_items.specs.StepLaws.{fails_then}
use Rattle.cm_rank.specs.Ranks.{rank_of}
use Rattle.cm_spec.specs.Cells.{is_busy}
use Rattle.cm_spec.specs.Image.{packed_len}
use Rattle.cm_dump.specs.Spelling.{crumbs_at}
use Rattle.cm_dump.specs.RestLaws.{crumbs_known, crumbs_other}
use Rattle.cm_dump.proofs.rest.read_crumbs.Goals as goal

pub returns-in-Err-clause-exact : goal.returns-in-Err-clause-exact
unfolding crumbs_at image_at
returns-in-Err-clause-exact c = λ x room few there.
    let n : ℕ = packed_len 4 c.args.n in
    let cut = rw c.image_len.ensures at (c.in-Err.ensures.exact x room (omega (arith, few, c.image_len.ensures)) there) in
    fails_then c.in-Err.fault (packed_at x c.args.at 4 4 c.args.n) _ (fails_then c.in-Err.fault (item_at x c.args.at n) _ cut)

pub cells_from-requires-clause-near : goal.cells_from-requires-clause-near
cells_from-requires-clause-near c = packed_near 4 4 c.args.n c.requires.few (omega (arith, c.requires.few))

counted : (cells : List ℕ) (n k : ℕ) → length cells ≡ n → rank_of 3 cells 0 + k ≡ rank_of 3 cells n → k ≡ count_by (is_busy 3) cells
counted cells n k long is =
    let all : rank_of 3 cells n ≡ count_by (is_busy 3) cells = ap (count_by (is_busy 3)) (take_all n cells (omega (arith, long))) in
    omega (arith, is, all)

pub returns-in-Err-cells_from-clause-exact : goal.returns-in-Err-cells_from-clause-exact
unfolding crumbs_at
returns-in-Err-cells_from-clause-exact c = λ x room few there.
    let whole = rw c.image_len.ensures at (c.in-Ok.ensures.exact x room (omega (arith, few, c.image_len.ensures)) there) in
    fails_then c.in-Err-cells_from.fault (packed_at x c.args.at 4 4 c.args.n) _ (c.in-Err-cells_from.ensures.exact x whole)

pub returns-then-count_busy-size-clause-exact : goal.returns-then-count_busy-size-clause-exact
returns-then-count_busy-size-clause-exact c = λ x room few there.
    let t = c.in-Ok-cells_from.cells in
    let cells : List ℕ = packed_cells 4 4 t.n t.bytes.items in
    let count = counted cells c.args.n c.count_busy.result c.in-Ok-cells_from.ensures.size c.count_busy.ensures.busy in
    let whole = rw c.image_len.ensures at (c.in-Ok.ensures.exact x room (omega (arith, few, c.image_len.ensures)) there) in
    crumbs_known x c.args.at c.args.size c.args.n cells c.in-Ok-cells_from.ensures.size (AllBelow-packed_cells 4 4 t.n t.bytes.items (lit< tt)) (c.in-Ok-cells_from.ensures.exact x whole) (omega (arith, count, c.if-count_busy-size.true))

pub returns-else-count_busy-size-clause-exact : goal.returns-else-count_busy-size-clause-exact
returns-else-count_busy-size-clause-exact c = λ x room few there.
    let t = c.in-Ok-cells_from.cells in
    let cells : List ℕ = packed_cells 4 4 t.n t.bytes.items in
    let count = counted cells c.args.n c.count_busy.result c.in-Ok-cells_from.ensures.size c.count_busy.ensures.busy in
    let whole = rw c.image_len.ensures at (c.in-Ok.ensures.exact x room (omega (arith, few, c.image_len.ensures)) there) in
    crumbs_other x c.args.at c.args.size c.args.n cells c.in-Ok-cells_from.ensures.size (AllBelow-packed_cells 4 4 t.n t.bytes.items (lit< tt)) (c.in-Ok-cells_from.ensures.exact x whole) (λ same. c.if-count_busy-size.false (count ∙ same))
