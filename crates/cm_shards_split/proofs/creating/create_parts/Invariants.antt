use Rattle.std.proofs.Common.{◌≡◌, ℕ, List, [], Option, length, replicate}
use Rattle.cm_io.specs.Files.{Files}
use Rattle.cm_shards_split.specs.Parts.{HavePaths, Written}
use Rattle.cm_shards_split.proofs.creating.create_parts.Given as goal

abbrev pub invariant-loop-i : goal.invariant-loop-i
invariant-loop-i g l = record {
  end : l.i-end ≡ length l.parts;
  created : (dir : List ℕ) (base : Option Files) → HavePaths dir l.parts → Written dir base [] (g.D.Disk.state l.initial.disk).files → Written dir base (replicate l.i []) (g.D.Disk.state l.disk).files;
  spilled : (g.D.Disk.state l.disk).spilled ≡ (g.D.Disk.state l.initial.disk).spilled;
  read_faults : (g.D.Disk.state l.disk).read_faults ≡ (g.D.Disk.state l.initial.disk).read_faults;
  write_faults : (g.D.Disk.state l.disk).write_faults ≡ (g.D.Disk.state l.initial.disk).write_faults;
}
