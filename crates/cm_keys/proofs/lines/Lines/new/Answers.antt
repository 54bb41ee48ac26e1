use Rattle.std.proofs.Common.{arith}
use Rattle.cm_keys.proofs.NextLemmas.{start_leaves}
use Rattle.cm_keys.proofs.lines.Lines.new.Goals as goal

pub invariant_of-result : goal.invariant_of-result
invariant_of-result g c = record {
  few = omega arith;
  left = λ _. start_leaves _ _ _ _ _ _ _ (rw c.new.ensures.source c.requires.start) c.new.ensures.ready;
}
