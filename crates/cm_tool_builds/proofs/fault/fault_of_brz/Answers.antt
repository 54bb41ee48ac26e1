use Rattle.std.proofs.Common.{ap, sym}
use Rattle.cm_tool_builds.specs.Faults.{fault_from_brz}
use Rattle.cm_tool_builds.proofs.fault.fault_of_brz.Goals as goal

pub returns-in-Memory : goal.returns-in-Memory
returns-in-Memory c = record { fault = sym (ap fault_from_brz c.in-Memory.is) }

pub returns-in-NoKeys : goal.returns-in-NoKeys
returns-in-NoKeys c = record { fault = sym (ap fault_from_brz c.in-NoKeys.is) }

pub returns-in-Overfull : goal.returns-in-Overfull
returns-in-Overfull c = record { fault = sym (ap fault_from_brz c.in-Overfull.is) }

pub returns-in-Cored : goal.returns-in-Cored
returns-in-Cored c = record { fault = sym (ap fault_from_brz c.in-Cored.is) }

pub returns-in-Key : goal.returns-in-Key
returns-in-Key c = record { fault = sym (ap fault_from_brz c.in-Key.is) }

pub returns-in-Changed : goal.returns-in-Changed
returns-in-Changed c = record { fault = sym (ap fault_from_brz c.in-Changed.is) }

pub returns-in-SpillFailed : goal.returns-in-SpillFailed
returns-in-SpillFailed c = record { fault = sym (ap fault_from_brz c.in-SpillFailed.is) }

pub returns-in-SpillDamaged : goal.returns-in-SpillDamaged
returns-in-SpillDamaged c = record { fault = sym (ap fault_from_brz c.in-SpillDamaged.is) }
