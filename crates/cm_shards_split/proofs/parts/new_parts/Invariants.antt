use Rattle.cm_shards_split.specs.Parts.{AreNew}
use Rattle.cm_shards_split.proofs.parts.new_parts.Given as goal

abbrev pub invariant-loop-k : goal.invariant-loop-k
invariant-loop-k l = AreNew l.dir l.k l.parts.items
