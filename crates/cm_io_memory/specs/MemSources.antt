-- A source in memory, as contracts see it.
use Rattle.std.specs.Prelude.{ℕ, List}

-- the bytes and the place in them; the reads and the rewinds so far, and those that fail; the count of faults
pub record SourceInMemory : Type 0 where
  pub bytes : List ℕ
  pub place : ℕ
  pub reads : ℕ
  pub read_fails : List ℕ
  pub rewinds : ℕ
  pub rewind_fails : List ℕ
  pub faults : ℕ

-- a source that was not called yet
abbrev pub new_source : List ℕ → List ℕ → List ℕ → SourceInMemory
new_source bytes read_fails rewind_fails = record {
  bytes = bytes;
  place = 0;
  reads = 0;
  read_fails = read_fails;
  rewinds = 0;
  rewind_fails = rewind_fails;
  faults = 0;
}
