use Rattle.std.proofs.Common.{◌∙◌, sym}
use Rattle.cm_chm.proofs.HeldLemmas.{chm_long}
use Rattle.cm_chm.proofs.lent.LentChm.by_vertices.Goals as goal

pub returns : goal.returns
returns c = rw (← c.self.view_is) (record { vertices = c.again.ensures.value ∙ sym (chm_long c.self.inside.parts) })
