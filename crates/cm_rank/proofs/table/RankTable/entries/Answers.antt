use Rattle.std.proofs.Common.{◌≡◌, ◌∙◌, arith, length}
use Rattle.cm_rank.specs.RankLaws.{length-samples}
use Rattle.cm_rank.proofs.table.RankTable.entries.Goals as goal

pub returns-clause-cells : goal.returns-clause-cells
returns-clause-cells c = λ cells stands.
    let held = rw (← c.self.view_is) at stands in
    let many : c.len.result ≡ length c.self.inside.ranks.items = omega (arith, c.len.ensures) in
    rw (← c.self.view_is) (many ∙ length-samples _ cells held)
