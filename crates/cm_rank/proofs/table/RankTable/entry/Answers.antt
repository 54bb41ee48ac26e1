use Rattle.std.proofs.Common.{◌∙◌, ◌<◌, length}
use Rattle.std.proofs.lemmas.List.{get_or_read}
use Rattle.cm_rank.specs.RankLaws.{sample_is}
use Rattle.cm_rank.proofs.table.RankTable.entry.Goals as goal

pub returns-clause-cells : goal.returns-clause-cells
returns-clause-cells c = λ cells stands.
    let held = rw (← c.self.view_is) at stands in
    let inside : c.args.i < length c.self.inside.ranks.items = rw (← c.self.view_is) at c.requires.inside in
    rw (← c.self.view_is) (get_or_read c.self.inside.ranks.items c.args.i c.index.result.now inside c.index.ensures 0 ∙ sample_is _ cells c.args.i held inside)
