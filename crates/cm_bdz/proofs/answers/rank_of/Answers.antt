use Rattle.std.proofs.Common.{rules, ◌∙◌, ap}
use Rattle.std.specs.List.{count_by}
use Rattle.cm_bdz.specs.RankingLaws.{rank_below}
use Rattle.cm_spec.specs.Cells.{is_busy}
use Rattle.cm_bdz.proofs.answers.rank_of.Goals as goal

pub returns-else-get-eq3-clause-below : goal.returns-else-get-eq3-clause-below
returns-else-get-eq3-clause-below c =
    let all = ap (count_by (is_busy 3)) c.cells-cells.ensures.cells ∙ c.cells-cells.ensures.busy in
    rw (c.rank_by.ensures.rank, c.ranks.ensures.idle) (rank_below _ c.args.v c.args.function.now.keys (search rules) (λ same. c.if-get-eq3.false (c.get.ensures ∙ same)) all)
