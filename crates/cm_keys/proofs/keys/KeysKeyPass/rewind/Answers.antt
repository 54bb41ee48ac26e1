use Rattle.std.proofs.Common.{arith}
use Rattle.cm_keys.proofs.NextLemmas.{start_leaves}
use Rattle.cm_keys.proofs.keys.KeysKeyPass.rewind.Goals as goal

pub invariant_of-self : goal.invariant_of-self
invariant_of-self g c = record {
  few = omega arith;
  left = λ _. start_leaves _ _ _ _ _ _ _ (λ _ _. c.in-Ok.ensures.start) c.in-Ok.ensures.ready;
}
