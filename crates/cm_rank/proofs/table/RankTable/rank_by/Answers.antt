use Rattle.cm_rank.specs.RankLaws.{rank_from_block}
use Rattle.cm_rank.proofs.table.RankTable.rank_by.Goals as goal

pub returns : goal.returns
returns g c =
    let cells = g.C.Lookup.cells c.args.cells.now in
    let sample = rw (← c.self.view_is) at c.requires.sample in
    record { rank = rw (← c.self.view_is) (rank_from_block c.self.inside.idle c.self.inside.b cells c.args.i c.rank_after.result (g.met.C.Lookup.in_room c.args.cells.now) c.requires.index (rw sample at c.rank_after.ensures.rank)) }
