use Rattle.std.proofs.Common.{arith}
use Rattle.cm_outer.proofs.BentLemmas.{bent_read}
use Rattle.cm_outer.proofs.bent_spill.BentSpillSpill.read_at.Goals as goal

pub returns-clause-bytes : goal.returns-clause-bytes
returns-clause-bytes c = rw (← c.self.view_is) (bent_read _ _ _ _ _ _ _ _ c.in_ok-n.ensures.bytes (omega (arith, c.in_ok-n.ensures.count)) c.bend.ensures.before c.bend.ensures.within)
