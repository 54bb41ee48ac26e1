use Rattle.std.proofs.Common.{◌≡◌, ◌≤◌, ◌∙◌, ap, length, arith, rules}
use Rattle.cm_io_memory.proofs.ReadLemmas.{read_gives}
use Rattle.cm_io_memory.proofs.mem_source.MemSourceSource.read.Goals as goal

pub returns-clause-gives : goal.returns-clause-gives
returns-clause-gives c = λ bytes is.
    let same : c.self.inside.bytes.items ≡ bytes = cc in
    let at : c.self.inside.place ≡ c.args.self.now.place = cc in
    let inside : c.self.inside.place ≤ length bytes = omega (arith, c.self.invariant, ap length same) in
    rw (← at) (read_gives bytes c.deref-2.result.now c.copy_from_slice.new.self _ c.self.inside.place c.min-n.result _ (c.deref-2.ensures.value ∙ same) inside c.copy_from_slice.ensures.after c.min-n.ensures)

pub returns-clause-ok : goal.returns-clause-ok
returns-clause-ok c = search rules
