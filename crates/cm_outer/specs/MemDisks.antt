-- A disk in memory, as contracts see it.
use Rattle.std.specs.Prelude.{◌-◌, ℕ, length, Bool, true, false, List, Option, Result, Ok, Err, refl}
use Rattle.std.specs.Coded.{Coded, code_by, coded×, coded_list, coded_option, coded_ℕ}
use Rattle.std.specs.FinMap as maps
use Rattle.cm_outer.specs.DiskCalls.{DiskCalls, calls_code}
use Rattle.cm_io.specs.Files.{Files}
use Rattle.cm_io_append.specs.Extending.{bytes_or_none}
use Rattle.cm_io.specs.declared.fault.DiskFault.{DiskFault}
use Rattle.cm_io.specs.declared.fault.DiskFault.TheVariants as disk_fault

-- the files, the room of each file that is written and of each spill, the bytes of the spill that was last handed back, the counts of
-- faults, and the calls
pub record DiskInMemory : Type 0 where
  pub files : Files
  pub room : ℕ
  pub spilled : Option (List ℕ)
  pub read_faults : ℕ
  pub write_faults : ℕ
  pub calls : DiskCalls

-- how many bytes have room behind those of a path
abbrev pub room_left : List ℕ → DiskInMemory → ℕ
room_left path disk = disk.room - length (bytes_or_none path disk.files)

-- whether a call returns `Failed`
abbrev pub is_failed : {T : Type 0} → Result T DiskFault → Bool
is_failed (Ok _) = false
is_failed (Err disk_fault.Failed) = true
is_failed (Err disk_fault.Memory) = false

-- a disk is stored as the tuple of its fields
abbrev pub disk_code : Coded DiskInMemory
disk_code =
    code_by (Files × (ℕ × (Option (List ℕ) × (ℕ × (ℕ × DiskCalls)))))
    (coded× (maps.code (coded_list coded_ℕ) (coded_list coded_ℕ)) (coded× coded_ℕ (coded× (coded_option (coded_list coded_ℕ)) (coded× coded_ℕ (coded× coded_ℕ calls_code)))))
    (λ d. (d.files, (d.room, (d.spilled, (d.read_faults, (d.write_faults, d.calls))))))
    (λ p. record { files = p.0; room = p.1.0; spilled = p.1.1.0; read_faults = p.1.1.1.0; write_faults = p.1.1.1.1.0; calls = p.1.1.1.1.1 }) (λ _. refl)
