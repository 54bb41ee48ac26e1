use Rattle.std.proofs.Common.{◌+◌, sym, subst}
use Rattle.cm_shards_split.proofs.Putting.{new_pushed}
use Rattle.cm_shards_split.specs.Parts.{AreNew}
use Rattle.cm_shards_split.proofs.parts.new_parts.Goals as goal

pub loop-k-preserved : goal.loop-k-preserved
loop-k-preserved c =
    let made = c.in_ok-new_part.ensures in
    subst (AreNew c.args.dir.now (c.loop-k.k + 1)) (sym c.in_ok-push.ensures.items) (new_pushed c.in_ok-new_part.field-0 c.loop-k.invariant made.path made.none made.count)
