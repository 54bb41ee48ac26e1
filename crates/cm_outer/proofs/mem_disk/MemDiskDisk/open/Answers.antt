use Rattle.std.proofs.Common.{refl, rules, inl, inr, sym}
use Rattle.cm_outer.proofs.mem_disk.MemDiskDisk.open.Goals as goal
use Rattle.cm_outer.proofs.mem_disk.MemDiskDisk.open.Goals.{in_default-via-in-Some+else-not-listed, in_default-via-in_default}

pub returns-in_default-clause-fails : goal.returns-in_default-clause-fails
returns-in_default-clause-fails c = (
  λ _. elim c.in_default.branch [
    | in_default-via-in-Some+else-not-listed w ↦ inl (rw (← c.self.view_is, ← c.deref.ensures.value) (w.if-not-listed.ensures.listed.0 (search rules)))
    | in_default-via-in_default w ↦ inr (rw (← c.self.view_is, ← c.deref-2.ensures.value) (sym w.in_default.ensures.bytes))
  ],
  λ _. refl,
)
