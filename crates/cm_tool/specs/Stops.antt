-- How a build by an algorithm may stop.
use Rattle.std.specs.Prelude.{◌≢◌}
use Rattle.cm_algo_names.specs.declared.algorithm.Algorithm.{Algorithm}
use Rattle.cm_tool_builds.specs.Faults.{IsChangeBy, IsSeedFailureBy, UsesSpill}
use Rattle.cm_tool_stops.specs.declared.stop.Stop.{Stop}
use Rattle.cm_tool_stops.specs.declared.stop.Stop.TheVariants.{Changed, Refused, Spill, SpillDamaged, TooLarge}

-- what a stop has, whatever the keys and the spill are: numbers of keys that changed, two numbers of a damaged spill that differ, and
-- a failure of the algorithm's seeds; a function has no records
abbrev pub HasStopForm : Algorithm → Stop → Type 0
HasStopForm algorithm (Changed first again) = IsChangeBy algorithm first again
HasStopForm algorithm Spill = UsesSpill algorithm
HasStopForm algorithm (SpillDamaged offset expected found) = UsesSpill algorithm × (expected ≢ found)
HasStopForm algorithm (Refused failure) = IsSeedFailureBy algorithm failure
HasStopForm algorithm (TooLarge line) = ⊥
HasStopForm algorithm stop = Unit {0}
