use Rattle.std.proofs.Common.{◌-◌, ◌≡◌, ◌≤◌, length}
use Rattle.cm_bits.proofs.LentFieldsLemmas.{number_from}
use Rattle.cm_bits.proofs.lent_fields.last_window.Given as goal

abbrev pub invariant-loop-from : goal.invariant-loop-from
invariant-loop-from l = (l.at ≤ l.from) × (l.from ≤ length l.bytes) × (l.number ≡ number_from l.bytes l.from)

abbrev pub decreases-loop-from : goal.decreases-loop-from
decreases-loop-from l = l.from - l.at
