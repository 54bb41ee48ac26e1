use Rattle.std.proofs.Common.{rules, ◌≡◌}
use Rattle.cm_shards_split.proofs.Overwritten.{none_more}
use Rattle.cm_shards_split.specs.Names.{shard_path}
use Rattle.cm_shards_split.proofs.overwriting.makes_keys.Goals as goal

pub loop-k-preserved : goal.loop-k-preserved
loop-k-preserved c =
    let job = c.args.job.now in
    let other : job.keys ≡ shard_path job.dir c.loop-k.k → ⊥ = search rules in
    record { counts = c.loop-k.invariant.counts; shards = none_more job.keys job.dir c.loop-k.k c.loop-k.invariant.shards other }
