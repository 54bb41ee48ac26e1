use Rattle.std.proofs.Common.{◌≡◌, ℕ, List, length}
use Rattle.cm_io.specs.States.{DiskState}
use Rattle.cm_shards_split.specs.Parts.{Stands, StandsTo, counts_of}
use Rattle.cm_shards_split.specs.Plans.{Plan}
use Rattle.cm_shards_split.specs.declared.part.Part.{Part}
use Rattle.cm_shards_split.proofs.parts.flush_parts.Given as goal

-- nothing waits for the first shards, and nothing else has changed
pub record Flushed (old_parts parts : List Part) (old now : DiskState) (i : ℕ) : Type 0 where
  pub stands : (p : Plan) (lines : List (List ℕ)) → Stands p lines old_parts old.files → StandsTo p lines i parts now.files
  pub many : length parts ≡ length old_parts
  pub counts : counts_of parts ≡ counts_of old_parts
  pub spilled : now.spilled ≡ old.spilled
  pub read_faults : now.read_faults ≡ old.read_faults
  pub write_faults : now.write_faults ≡ old.write_faults

abbrev pub invariant-loop-i : goal.invariant-loop-i
invariant-loop-i g l = Flushed l.initial.parts l.parts (g.D.Disk.state l.initial.disk) (g.D.Disk.state l.disk) l.i × (l.i-end ≡ length l.initial.parts)
