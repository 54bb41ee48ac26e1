-- Why there is no store of lines, whatever they are.
use Rattle.std.specs.Prelude.{◌≡◌, ℕ, Option, Some}
use Rattle.cm_io.specs.declared.key_pass.KeyFault.{KeyFault}
use Rattle.cm_tool_building.specs.declared.fault.Fault.{Fault}
use Rattle.cm_tool_building.specs.declared.fault.Fault.TheVariants as faults
use Rattle.cm_tool_cells.specs.declared.report.CoreReport.{CoreReport}

-- whatever the lines are: `Key` has the fault that their pass failed with last, and `TooLarge` names the line that it yielded last
abbrev pub HasLineFailure : Option KeyFault → ℕ → Fault CoreReport → Type 0
HasLineFailure failure last (faults.Key fault) = failure ≡ Some fault
HasLineFailure failure last (faults.TooLarge line) = line ≡ last
HasLineFailure failure last fault = Unit {0}
