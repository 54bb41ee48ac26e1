use Rattle.std.proofs.Common.{◌≡◌, length}
use Rattle.cm_shards_split.proofs.distinct.check_parts.Given as goal

abbrev pub invariant-loop-i : goal.invariant-loop-i
invariant-loop-i g l = record {
  end : l.i-end ≡ length l.parts;
  files : (g.D.Disk.state l.disk).files ≡ (g.D.Disk.state l.initial.disk).files;
  spilled : (g.D.Disk.state l.disk).spilled ≡ (g.D.Disk.state l.initial.disk).spilled;
  read_faults : (g.D.Disk.state l.disk).read_faults ≡ (g.D.Disk.state l.initial.disk).read_faults;
  write_faults : (g.D.Disk.state l.disk).write_faults ≡ (g.D.Disk.state l.initial.disk).write_faults;
}
