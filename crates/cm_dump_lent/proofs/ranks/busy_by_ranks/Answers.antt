use Rattle.std.proofs.Common.{◌≡◌, ◌∙◌, ◌-◌, ◌<◌, ℕ, List, ap, arith, length}
use Rattle.cm_bits.specs.Held.{packed_cells}
use Rattle.cm_rank.specs.RankLaws.{rank_fits, sample_there, sampled_rank-least}
use Rattle.cm_rank.specs.Ranks.{Samples, rank_of, ranks_in}
use Rattle.cm_dump_lent.proofs.ranks.busy_by_ranks.Goals as goal

-- the last cell has a rank before it
pub rank-before-requires-clause-there : goal.rank-before-requires-clause-there
rank-before-requires-clause-there c =
    let cells : List ℕ = packed_cells 4 4 c.args.cells.now.n c.args.cells.now.bytes.now in
    let samples : Samples = record { idle = 3; shift = c.args.b; ranks = ranks_in c.args.ranks.now } in
    let inside : c.len-n.result - 1 < length cells = omega (arith, c.len-n.ensures, c.requires.some) in
    rw c.new.ensures.ranks (sample_there samples cells (c.len-n.result - 1) c.requires.stands inside)

pub overflow_add-result : goal.overflow_add-result
overflow_add-result c =
    let cells : List ℕ = packed_cells 4 4 c.args.cells.now.n c.args.cells.now.bytes.now in
    let samples : Samples = record { idle = 3; shift = c.args.b; ranks = ranks_in c.args.ranks.now } in
    let inside : c.len-n.result - 1 < length cells = omega (arith, c.len-n.ensures, c.requires.some) in
    let rank = rw c.new.ensures.ranks at c.rank-before.ensures.rank in
    let before : c.rank-before.result ≡ rank_of 3 cells (c.len-n.result - 1) = rank ∙ sampled_rank-least samples cells (c.len-n.result - 1) (omega (arith, c.requires.n)) c.requires.stands inside in
    omega (arith, before, c.count_busy.ensures.busy, rank_fits 3 cells c.len-n.result (omega (arith, c.requires.n)))

-- the cells before the last one, and the last one
pub returns : goal.returns
returns c =
    let cells : List ℕ = packed_cells 4 4 c.args.cells.now.n c.args.cells.now.bytes.now in
    let samples : Samples = record { idle = 3; shift = c.args.b; ranks = ranks_in c.args.ranks.now } in
    let inside : c.len-n.result - 1 < length cells = omega (arith, c.len-n.ensures, c.requires.some) in
    let rank = rw c.new.ensures.ranks at c.rank-before.ensures.rank in
    let before : c.rank-before.result ≡ rank_of 3 cells (c.len-n.result - 1) = rank ∙ sampled_rank-least samples cells (c.len-n.result - 1) (omega (arith, c.requires.n)) c.requires.stands inside in
    let end : rank_of 3 cells c.len-n.result ≡ rank_of 3 cells (length cells) = ap (rank_of 3 cells) c.len-n.ensures in
    record { busy = omega (arith, before, c.count_busy.ensures.busy, end) }
