use Rattle.std.proofs.Common.{◌≡◌, ℕ, List, Option, true}
use Rattle.cm_io.specs.Files.{Files}
use Rattle.cm_keys.specs.Streams.{told_by}
use Rattle.cm_shards_split.specs.Plans.{plan}
use Rattle.cm_shards_split.specs.Streaming.{IsStreaming}
use Rattle.cm_shards_split.proofs.streaming.stream.Given as goal

abbrev pub invariant-loop-i : goal.invariant-loop-i
invariant-loop-i g l = record {
  streaming : (dir : List ℕ) (base : Option Files) → IsStreaming (plan dir base l.route l.end) l.initial.lines l.initial.parts (g.D.Disk.state l.initial.disk).files → IsStreaming (plan dir base l.route l.end) l.lines l.parts (g.D.Disk.state l.disk).files;
  told : told_by l.lines ≡ told_by l.initial.lines;
  bytes : l.lines.bytes ≡ l.initial.lines.bytes;
  usable : l.lines.usable ≡ true;
  count : l.lines.count ≡ l.i;
  faults : l.lines.faults ≡ l.initial.lines.faults;
  spilled : (g.D.Disk.state l.disk).spilled ≡ (g.D.Disk.state l.initial.disk).spilled;
  read_faults : (g.D.Disk.state l.disk).read_faults ≡ (g.D.Disk.state l.initial.disk).read_faults;
  write_faults : (g.D.Disk.state l.disk).write_faults ≡ (g.D.Disk.state l.initial.disk).write_faults;
}
