use Rattle.std.proofs.Common.{arith}
use Rattle.cm_brz_split.proofs.GivenLemmas.{gave_over}
use Rattle.cm_brz_split.specs.SizesLaws.{lowest_over, none_over}
use Rattle.cm_brz_split.proofs.split.try_seed.Goals as goal

pub returns-in-None-clause-splits : goal.returns-in-None-clause-splits
returns-in-None-clause-splits g c = λ told is. none_over c.count_buckets.new.sizes told.keys c.args.split.now.buckets c.args.split.now.seed (c.in_ok-count_buckets.ensures.sizes told is) (omega arith) c.in-None.ensures.none

pub returns-in-Some-clause-lowest : goal.returns-in-Some-clause-lowest
returns-in-Some-clause-lowest g c = λ told is. lowest_over c.count_buckets.new.sizes told.keys c.args.split.now.buckets c.args.split.now.seed c.in-Some.over.bucket c.in-Some.over.count (c.in_ok-count_buckets.ensures.sizes told is) (omega arith) c.in-Some.ensures.some

pub returns-in-Some-clause-gave_over : goal.returns-in-Some-clause-gave_over
returns-in-Some-clause-gave_over g c = gave_over (g.P.KeyPass.gave c.count_buckets.new.keys) c.count_buckets.new.sizes c.args.split.now.buckets c.args.split.now.seed c.in-Some.over.bucket c.in-Some.over.count c.in_ok-count_buckets.ensures.gave (omega arith) c.in-Some.ensures.some
