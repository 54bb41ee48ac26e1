use Rattle.std.proofs.Common.{rules, sym, inl}
use Rattle.cm_io_append.specs.ExtendingLaws.{extended_nothing}
use Rattle.cm_outer.proofs.mem_disk.MemDiskAppendDisk.append.Goals as goal

pub returns-then-next_is_listed-clause-files : goal.returns-then-next_is_listed-clause-files
returns-then-next_is_listed-clause-files c = (0, rw (← c.self.view_is) (sym (extended_nothing c.args.path.now _ (rw (← c.self.view_is) at c.requires.there))))

pub returns-then-next_is_listed-clause-full : goal.returns-then-next_is_listed-clause-full
returns-then-next_is_listed-clause-full c = λ _. inl (rw (← c.self.view_is, ← c.deref.ensures.value) (c.if-next_is_listed.ensures.listed.0 (search rules)))
