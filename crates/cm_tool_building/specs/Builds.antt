-- What a build does to disk, out and err: what the driver promises of any builder.
use Rattle.std.specs.Prelude.{◌≡◌, ◌⊎◌, ℕ, List, [], ◌∷◌, take, Option, Some, Result, Ok, Err}
use Rattle.std.specs.Option.{ForSome}
use Rattle.cm_witness_gather.specs.declared.failure.SeedFailure.{SeedFailure}
use Rattle.cm_io.specs.Causes.{Rose}
use Rattle.cm_io.specs.Files.{Files, file_at, with_file}
use Rattle.cm_io.specs.States.{Outside}
use Rattle.cm_io.specs.Writing.{then_bytes}
use Rattle.cm_tool_building.specs.Building.{Building, keys_of, outcome_of, refusing, saving}
use Rattle.cm_tool_building.specs.Leaves.{IsAllowedEnd, HasOutCause, Known}
use Rattle.cm_tool_building.specs.Stores.{IsPart}
use Rattle.cm_tool_stops.specs.Does.{Does, Frame}
use Rattle.cm_tool_stops.specs.Ends.{Says, message_of, status_of}
use Rattle.cm_tool_stops.specs.Messages.{cannot_use_spill, cannot_write, cannot_write_out}
use Rattle.cm_tool_stops.specs.declared.stop.Stop.{Stop}
use Rattle.cm_tool_stops.specs.declared.stop.Stop.TheVariants.{Refused, Spill}

-- the outcome saves what was made, of whose bytes its file holds a prefix, or the files are as before; out got nothing, and the message
-- names the file
abbrev pub SavedPart : {M : Type 0} → Building M → Outside → Outside → Files → List ℕ → Type 0
SavedPart {M = M} b old new files text =
    (made : M) × (outcome_of b files ≡ Some (saving b files made)) × IsPart b.named.function (b.bytes made) old.disk.files new.disk.files × (new.out.written ≡ old.out.written) × (new.out.faults ≡ old.out.faults) × (text ≡ cannot_write b.named.program b.named.function)

-- the outcome shows a report, of which out got a prefix, and its count rose; the files are as before, and the message is that of out
abbrev pub ReportedPart : {M : Type 0} → Building M → Outside → Outside → Files → List ℕ → Type 0
ReportedPart b old new files text =
    (failure : SeedFailure) × (report : List ℕ) × (n : ℕ) × (outcome_of b files ≡ Some (refusing b files (record { stop = Refused failure; report = report }))) × (new.out.written ≡ then_bytes old.out.written (take n report)) × (new.disk.files ≡ old.disk.files) × Rose old.out.faults new.out.faults × (text ≡ cannot_write_out b.named.program)

-- the spill failed; the files are as before, out got nothing, and the message names the directory
abbrev pub FailedSpill : {M : Type 0} → Building M → Outside → Outside → List ℕ → Type 0
FailedSpill b old new text = b.meaning.may_stop Spill × (new.disk.files ≡ old.disk.files) × (new.out.written ≡ old.out.written) × (new.out.faults ≡ old.out.faults) × (text ≡ cannot_use_spill b.named.program b.dir)

-- what a build that could not write leaves of the files and of out, by what its message names
pub record IsUnfinished {M : Type 0} (b : Building M) (old new : Outside) (files : Files) : Type 0 where
  pub text : List ℕ
  pub says : Says old.err new.err text
  pub part : SavedPart b old new files text ⊎ ReportedPart b old new files text ⊎ FailedSpill b old new text

-- the outcome saves what was made, and its file is empty
abbrev pub IsEmptied : {M : Type 0} → Building M → Option Files → Option Files → Type 0
IsEmptied {M = M} b old new = (new ≡ with_file b.named.function [] old) × ForSome old (λ files. (made : M) × (outcome_of b files ≡ Some (saving b files made)))

-- what a failed build may leave: a message names what could not be written, and without memory the file that is saved may be empty
pub record MayLeave {M : Type 0} (b : Building M) (old new : Outside) (status : ℕ) : Type 0 where
  pub write : status ≡ 5 → ForSome old.disk.files (IsUnfinished b old new)
  pub memory : status ≡ 6 → (new.disk.files ≡ old.disk.files) ⊎ IsEmptied b old.disk.files new.disk.files

-- the status of an end, and what is said of it
abbrev pub end_status : {M : Type 0} → Result M Stop → ℕ
end_status (Ok made) = 0
end_status (Err stop) = status_of stop

abbrev pub end_message : {M : Type 0} → Building M → Result M Stop → List ℕ
end_message b (Ok made) = b.meaning.said made
end_message b (Err stop) = message_of b.named b.dir stop

-- The build came to its end, or stopped as its builder may; which count the stop raised, its status, and what was said.
pub record IsEnd {M : Type 0} (b : Building M) (old new : Outside) (status : ℕ) (end : Result M Stop) : Type 0 where
  pub form : IsAllowedEnd b.meaning.may_stop end
  pub out_cause : HasOutCause old.out.faults new.out.faults end
  pub status_is : status ≡ end_status end
  pub says : Says old.err new.err (end_message b end)

abbrev pub MayEnd : {M : Type 0} → Building M → Outside → Outside → ℕ → Type 0
MayEnd {M = M} b old new status = (end : Result M Stop) × IsEnd b old new status end

-- The frame of a build: it saves what was made, and prints a report alone. After a failed write the file may have a prefix of its bytes.
abbrev pub frame_of : {M : Type 0} → Building M → Frame
frame_of b = record {
  statuses = 0 ∷ 1 ∷ 4 ∷ 5 ∷ 6 ∷ 7 ∷ 8 ∷ [];
  outcome = outcome_of b;
  saves = 0 ∷ 5 ∷ 6 ∷ [];
  prints = 1 ∷ 5 ∷ [];
  writes = Unit {0};
  spills = b.meaning.uses_spill;
  leaves = MayLeave b;
  ends = MayEnd b;
}

-- what was made is saved, and this is known of it
abbrev pub IsSaved : {M : Type 0} → Building M → Outside → Outside → Files → Type 0
IsSaved {M = M} b old new files = (made : M) × (outcome_of b files ≡ Some (saving b files made)) × Known b files made old.disk.spilled new.disk.spilled

-- there is a report on the keys, and this is known of them
abbrev pub IsRefusedWith : {M : Type 0} → Building M → Files → Type 0
IsRefusedWith b files = (bytes : List ℕ) × (file_at files b.named.keys ≡ Some bytes) × b.meaning.reports (keys_of b bytes)

-- A build that found disk, out and err in the old state left them in the new one, with this status.
pub record Builds {M : Type 0} (b : Building M) (old new : Outside) (result : ℕ) : Type 0 where
  pub does : Does (frame_of b) old new result
  pub saved : result ≡ 0 → ForSome old.disk.files (IsSaved b old new)
  pub refused : result ≡ 1 → ForSome old.disk.files (IsRefusedWith b)
