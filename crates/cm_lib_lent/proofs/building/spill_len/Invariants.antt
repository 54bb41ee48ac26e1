use Rattle.std.proofs.Common.{◌≡◌, ◌≤◌, ◌*◌}
use Rattle.cm_lib_lent.specs.Builds.{spill_upto}
use Rattle.cm_lib_lent.proofs.building.spill_len.Given as goal

-- the bytes of the keys before, which aren't many
abbrev pub invariant-loop-i : goal.invariant-loop-i
invariant-loop-i l = (l.len ≡ spill_upto l.keys.bytes l.keys.ends l.i) × (l.len ≤ 65545 * l.i)
