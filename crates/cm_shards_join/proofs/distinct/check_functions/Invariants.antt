use Rattle.std.proofs.Common.{◌≡◌, length}
use Rattle.cm_shards_join.proofs.distinct.check_functions.Given as goal

abbrev pub invariant-loop-function : goal.invariant-loop-function
invariant-loop-function g l = record {
  end : l.function-index-end ≡ length l.job.functions;
  files : (g.D.Disk.state l.disk).files ≡ (g.D.Disk.state l.initial.disk).files;
  spilled : (g.D.Disk.state l.disk).spilled ≡ (g.D.Disk.state l.initial.disk).spilled;
  read_faults : (g.D.Disk.state l.disk).read_faults ≡ (g.D.Disk.state l.initial.disk).read_faults;
  write_faults : (g.D.Disk.state l.disk).write_faults ≡ (g.D.Disk.state l.initial.disk).write_faults;
}
