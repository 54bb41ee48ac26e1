use Rattle.cm_rank.specs.RankLaws.{sample_there}
use Rattle.cm_rank.proofs.table.RankTable.rank.Goals as goal

pub sample-requires : goal.sample-requires
sample-requires g c = record { there = sample_there _ (g.C.Lookup.cells c.args.cells.now) c.args.i c.requires.stands c.requires.index }

pub rank_by-requires-clause-sample : goal.rank_by-requires-clause-sample
rank_by-requires-clause-sample g c = c.sample.ensures.cells (g.C.Lookup.cells c.args.cells.now) c.requires.stands
