use Rattle.std.proofs.Common.{refl, rules}
use Rattle.cm_outer.proofs.mem_disk.MemDiskDisk.close.Goals as goal

pub returns-then-listed-2-clause-fails : goal.returns-then-listed-2-clause-fails
returns-then-listed-2-clause-fails c = (λ _. rw (← c.self.view_is, ← c.deref.ensures.value) (c.if-listed-2.ensures.listed.0 (search rules)), λ _. refl)
