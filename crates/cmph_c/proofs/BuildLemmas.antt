-- The refusals of builds.
use Rattle.cm_lib_lent.specs.Builds.{IsLentKind, IsSpilledKind}
use Rattle.cm_lib_lent.specs.declared.building.LentFault.{LentFault}
use Rattle.cm_lib_lent.specs.declared.building.LentFault.TheVariants as lent
use Rattle.cm_tool_builds.specs.declared.fault.FuncFault.TheVariants as fault

-- those without a spill are among those with one
pub spilled_too : (why : LentFault) → IsLentKind why → IsSpilledKind why
spilled_too (lent.Room needed) kind = tt
spilled_too (lent.Spill needed) kind = absurd kind
spilled_too (lent.Build fault.Memory) kind = tt
spilled_too (lent.Build fault.NoKeys) kind = tt
spilled_too (lent.Build (fault.Cored shown)) kind = tt
spilled_too (lent.Build (fault.Overfull seed bucket count equal)) kind = absurd kind
spilled_too (lent.Build (fault.Key key)) kind = absurd kind
spilled_too (lent.Build (fault.Changed first again)) kind = absurd kind
spilled_too (lent.Build fault.Spill) kind = absurd kind
spilled_too (lent.Build (fault.SpillDamaged offset expected found)) kind = absurd kind
