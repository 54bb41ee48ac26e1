use Rattle.cm_rank.specs.RankLaws.{sample_there}
use Rattle.cm_bdz.proofs.answers.sample_for.Goals as goal

pub sample-requires : goal.sample-requires
sample-requires c = record { there = sample_there _ c.args.function.now.cells c.args.v c.ranks.ensures.stands c.requires.inside }

pub returns : goal.returns
returns c = record { sample = rw (c.ranks.ensures.idle, c.ranks.ensures.shift) at (c.sample.ensures.cells c.args.function.now.cells c.ranks.ensures.stands) }
