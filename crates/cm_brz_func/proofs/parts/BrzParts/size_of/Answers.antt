use Rattle.cm_brz_func.proofs.KeptLemmas.{sized_at}
use Rattle.cm_brz_func.proofs.parts.BrzParts.size_of.Goals as goal

pub held_at-requires-clause-sized : goal.held_at-requires-clause-sized
held_at-requires-clause-sized c = rw c.deref.ensures.value (sized_at c.self.inside.kept.items c.args.j c.self.invariant c.self.view_is c.requires.inside)
