use Rattle.std.proofs.Common.{refl, rules}
use Rattle.cm_outer.proofs.mem_disk.MemDiskAppendDisk.check_distinct.Goals as goal

pub returns-then-next_is_listed-clause-fails : goal.returns-then-next_is_listed-clause-fails
returns-then-next_is_listed-clause-fails c = (λ _. rw (← c.self.view_is, ← c.deref.ensures.value) (c.if-next_is_listed.ensures.listed.0 (search rules)), λ _. refl)
