use Rattle.std.proofs.Common.{◌≡◌, ◌∙◌, ap, arith}
use Rattle.std.proofs.Math.Seq.{take-length}
use Rattle.std.specs.List.{count_by}
use Rattle.cm_bits.specs.Held.{packed_cells}
use Rattle.cm_rank.specs.Ranks.{rank_of}
use Rattle.cm_spec.specs.Cells.{is_busy}
use Rattle.cm_bdz.proofs.bdz.count_busy.Goals as goal

pub returns : goal.returns
returns c =
    let cells = packed_cells 4 4 c.args.cells.now.n c.args.cells.now.bytes.items in
    let all : rank_of 3 cells c.len.result ≡ count_by (is_busy 3) cells = ap (rank_of 3 cells) c.len.ensures ∙ ap (count_by (is_busy 3)) (take-length cells) in
    record { count = omega (arith, c.count_busy.ensures.busy, all) }
