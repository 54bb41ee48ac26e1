use Rattle.std.proofs.Common.{◌≡◌, ◌++◌, ℕ, List, Option, Result, take}
use Rattle.std.specs.Option.{ForSome}
use Rattle.cm_algo_names.specs.declared.algorithm.Algorithm.{Algorithm}
use Rattle.cm_io.specs.States.{IsSent}
use Rattle.cm_tool_stops.specs.declared.stop.Stop.{Stop}
use Rattle.cm_tool.specs.Spills.{TestsSpilled}
use Rattle.cm_tool.specs.TestEnds.{EndsTest}
use Rattle.cm_tool.specs.Tested.{tested_by}
use Rattle.cm_tool.proofs.testing.test_each.Given as goal

abbrev pub invariant-loop-algorithm : goal.invariant-loop-algorithm
invariant-loop-algorithm g l =
    let D = g.D.Disk in
    let O = g.O.Sink in
    record {
      files : (D.state l.disk).files ≡ (D.state l.fn.disk).files;
      reads : (D.state l.disk).read_faults ≡ (D.state l.fn.disk).read_faults;
      writes : (D.state l.disk).write_faults ≡ (D.state l.fn.disk).write_faults;
      quiet : (O.state l.out).faults ≡ (O.state l.fn.out).faults;
      sent : (O.state l.fn.out).waits ≡ 0 → IsSent (O.state l.fn.out) (O.state l.out);
      ends : ForSome (D.state l.fn.disk).files (λ files. (next : List Algorithm) (r : Result (Unit {0}) Stop) (new : Option (List ℕ)) → EndsTest (tested_by l.job files next) (O.state l.out).written new r
          → EndsTest (tested_by l.job files (take l.algorithm-index l.algorithms ++ next)) (O.state l.fn.out).written new r);
      spilled : ForSome (D.state l.fn.disk).files (λ _. (next : List Algorithm) (new : Option (List ℕ)) → TestsSpilled l.job next (D.state l.disk).spilled new
          → TestsSpilled l.job (take l.algorithm-index l.algorithms ++ next) (D.state l.fn.disk).spilled new);
    }
