-- What contracts see of a sink and of a disk, and of all that a command changes.
use Rattle.std.specs.Prelude.{◌≡◌, ◌⊎◌, ◌<◌, ◌^◌, ℕ, List, Option}
use Rattle.cm_io.specs.Files.{Files}

-- A sink: all that was written, if it is known; how many of these bytes are buffered, and not sent on to what is behind the sink; how
-- often it has failed.
pub record SinkState : Type 0 where
  pub written : Option (List ℕ)
  pub waits : ℕ
  pub faults : ℕ

-- A disk: the files, if they are known; the bytes of the spill that was last handed back, if there was one and the files are known; how
-- often opening or reading has failed, and how often creating or writing.
pub record DiskState : Type 0 where
  pub files : Option Files
  pub spilled : Option (List ℕ)
  pub read_faults : ℕ
  pub write_faults : ℕ

-- The disk, standard output and standard error of a command.
pub record Outside : Type 0 where
  pub disk : DiskState
  pub out : SinkState
  pub err : SinkState

abbrev pub outside : DiskState → SinkState → SinkState → Outside
outside disk out err = record { disk = disk; out = out; err = err }

-- A sink has no buffered bytes any more, or its count rose.
abbrev pub IsSent : SinkState → SinkState → Type 0
IsSent old new = old.faults < 2 ^ 63 → (new.waits ≡ 0) ⊎ (old.faults < new.faults)
