use Rattle.cm_brz_split.proofs.split.bucket_total.Goals as goal
use Rattle.cm_brz_split.specs.SizesLaws.{few_buckets, some_buckets}

pub returns-clause-some : goal.returns-clause-some
returns-clause-some c = some_buckets c.args.m c.args.b c.requires.many.0 c.requires.some

pub returns-clause-few : goal.returns-clause-few
returns-clause-few c = few_buckets c.args.m c.args.b c.requires.many.0 c.requires.some
