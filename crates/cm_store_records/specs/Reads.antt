-- The records of the lines of a pass, read into memory.
use Rattle.std.specs.Prelude.{◌≡◌, ℕ, List, map, All, Option, None, Some, Result, Ok, Err}
use Rattle.cm_io.specs.Passes.{HasKeyCause, Told}
use Rattle.cm_io.specs.declared.key_pass.KeyFault.{KeyFault}
use Rattle.cm_io.specs.declared.key_pass.KeyFault.TheVariants as key_fault
use Rattle.cm_store_records.specs.RecordPass.{IsSmall}
use Rattle.cm_store_records.specs.Records.{bytes_of, first_large, records_of_lines}
use Rattle.cm_store_records.specs.declared.read.ReadFault.{ReadFault}
use Rattle.cm_store_records.specs.declared.read.ReadFault.TheVariants.{Memory, Key, TooLarge}

-- The bytes of records, and the lines of each.
pub record RecordBytes : Type 0 where
  pub bytes : List ℕ
  pub lines : List ℕ

-- These are the records of known lines, all of which fit, with keys and values that fit, and no fault comes at their end.
pub record HoldsLines (told : Told) (records : RecordBytes) : Type 0 where
  pub bytes_are : records.bytes ≡ bytes_of (records_of_lines told.keys)
  pub lines_are : records.lines ≡ map (λ line. line.0) told.keys
  pub fit : first_large 0 told.keys ≡ None
  pub small : All IsSmall (records_of_lines told.keys)
  pub no_fault : told.fault ≡ None

-- why the records of known lines aren't read: the pass fails, or at its end, or a record is too large before that
abbrev pub FailsReading : Told → ReadFault → Type 0
FailsReading told Memory = Unit {0}
FailsReading told (Key key_fault.Read) = Unit {0}
FailsReading told (Key fault) = (first_large 0 told.keys ≡ None) × (told.fault ≡ Some fault)
FailsReading told (TooLarge line) = first_large 0 told.keys ≡ Some line

-- `Key` has the cause of the pass, and no other fault raises its count
abbrev pub HasReadCause : {T : Type 0} → ℕ → ℕ → Result T ReadFault → Type 0
HasReadCause before now (Ok records) = now ≡ before
HasReadCause before now (Err Memory) = now ≡ before
HasReadCause before now (Err (Key fault)) = HasKeyCause {T = Unit {0}} before now (Err fault)
HasReadCause before now (Err (TooLarge line)) = now ≡ before

-- whatever the lines are: `Key` has the fault that the pass failed with last, and `TooLarge` names the line that it yielded last
abbrev pub HasReadFailure : Option KeyFault → ℕ → ReadFault → Type 0
HasReadFailure failure last Memory = Unit {0}
HasReadFailure failure last (Key fault) = failure ≡ Some fault
HasReadFailure failure last (TooLarge line) = line ≡ last
