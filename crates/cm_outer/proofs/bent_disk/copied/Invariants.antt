use Rattle.std.proofs.Common.{◌≡◌, map, take}
use Rattle.cm_outer.proofs.bent_disk.copied.Given as goal

abbrev pub invariant-loop-entry : goal.invariant-loop-entry
invariant-loop-entry l = map (λ v. v.items) l.copy.items ≡ map (λ v. v.items) (take l.entry-index l.passes)
