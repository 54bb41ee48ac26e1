-- What a query does to disk, out and err: what the driver promises of any file that is asked for keys.
use Rattle.std.specs.Prelude.{◌≡◌, ◌⊎◌, ℕ, List, [], ◌∷◌, ◌++◌, None, Some, Result, Ok, Err, Bool}
use Rattle.std.specs.Option.{ForSome}
use Rattle.cm_io.specs.Files.{Files, file_at}
use Rattle.cm_io.specs.States.{Outside}
use Rattle.cm_io.specs.Writing.{then_bytes}
use Rattle.cm_tool_asking.specs.Asking.{Asking, keys_of, outcome_of, replies_of, status_by}
use Rattle.cm_tool_asking.specs.Leaves.{AskedPart, GotNothing, Wrote, question_of, wrote}
use Rattle.cm_tool_asking.specs.Loads.{IsBad, Spells}
use Rattle.cm_tool_asking.specs.Meanings.{text_of}
use Rattle.cm_tool_stops.specs.Does.{Does, Frame}
use Rattle.cm_tool_stops.specs.Ends.{Says, query_message_of, query_status_of}
use Rattle.cm_tool_stops.specs.Messages.{cannot_read, cannot_write_out, out_of_memory}
use Rattle.cm_tool_stops.specs.declared.stop.QueryStop.{QueryStop}

-- A file could not be read. It is the one that is asked, and neither out nor err got anything of an answer; or it is the keys file, after
-- the first keys were answered, with their notes and with nothing of a further line. The message names the file.
abbrev pub StoppedReading : {L F : Type 0} → Asking L F → Files → Wrote → List ℕ → Type 0
StoppedReading {L = L} a files w text = (GotNothing w × (text ≡ cannot_read a.named.program a.named.function))
    ⊎ ((x : L) × (given : ℕ) × Spells a.meaning.spelling files a.named.function x × AskedPart (question_of a x files) w given 0 × (text ≡ cannot_read a.named.program a.named.keys))

-- Out could not be written, after the first keys were answered, with their notes. It may have a prefix of the line of one key more.
abbrev pub StoppedWriting : {L F : Type 0} → Asking L F → Files → Wrote → List ℕ → Type 0
StoppedWriting {L = L} a files w text = (x : L) × (given : ℕ) × (rest : ℕ) × Spells a.meaning.spelling files a.named.function x × AskedPart (question_of a x files) w given rest × (text ≡ cannot_write_out a.named.program)

-- a query that a fault cut short, or for which memory ran out: err got the notes of the keys that were answered, and the message
pub record IsCutShort {L F : Type 0} (a : Asking L F) (old new : Outside) (files : Files) (status : ℕ) : Type 0 where
  pub notes : List ℕ
  pub text : List ℕ
  pub says : Says old.err new.err (notes ++ text)
  pub read : status ≡ 4 → StoppedReading a files (wrote old.out.written new.out.written notes) text
  pub write : status ≡ 5 → StoppedWriting a files (wrote old.out.written new.out.written notes) text
  pub memory : status ≡ 6 → GotNothing (wrote old.out.written new.out.written notes) × (text ≡ out_of_memory a.named.program)

-- what a query that a fault cut short may leave: out has the text of the first keys, and err their notes
abbrev pub MayLeave : {L F : Type 0} → Asking L F → Outside → Outside → ℕ → Type 0
MayLeave a old new status = ForSome old.disk.files (λ files. IsCutShort a old new files status)

-- the status of an end, and what is said of it after the notes
abbrev pub end_status : {F : Type 0} → Result Bool (QueryStop F) → ℕ
end_status (Ok complete) = status_by complete
end_status (Err stop) = query_status_of stop

abbrev pub end_message : {L F : Type 0} → Asking L F → Result Bool (QueryStop F) → List ℕ
end_message a (Ok complete) = []
end_message a (Err stop) = query_message_of a.message a.named stop

-- The query came to its end, or stopped: its status, what was noted, and what was said then.
pub record IsEnd {L F : Type 0} (a : Asking L F) (old new : Outside) (status : ℕ) (end : Result Bool (QueryStop F)) : Type 0 where
  pub notes : List ℕ
  pub status_is : status ≡ end_status end
  pub says : Says old.err new.err (notes ++ end_message a end)

abbrev pub MayEnd : {L F : Type 0} → Asking L F → Outside → Outside → ℕ → Type 0
MayEnd {F = F} a old new status = (end : Result Bool (QueryStop F)) × IsEnd a old new status end

-- The frame of a query: it changes no file, and prints nothing of a file that is refused. Memory runs out before the first key, or never.
abbrev pub frame_of : {L F : Type 0} → Asking L F → Frame
frame_of a = record {
  statuses = 0 ∷ 1 ∷ 3 ∷ 4 ∷ 5 ∷ 6 ∷ 8 ∷ [];
  outcome = outcome_of a;
  saves = [];
  prints = 0 ∷ 1 ∷ 4 ∷ 5 ∷ 8 ∷ [];
  writes = ⊥;
  spills = ⊥;
  leaves = MayLeave a;
  ends = MayEnd a;
}

-- the file that is asked spells something, which answered all keys of the keys file, whose pass ends without a fault
pub record IsAnswered {L F : Type 0} (a : Asking L F) (old new : Outside) (status : ℕ) (files : Files) : Type 0 where
  pub x : L
  pub spells : Spells a.meaning.spelling files a.named.function x
  pub bytes : List ℕ
  pub there : file_at files a.named.keys ≡ Some bytes
  pub sound : (keys_of a bytes).fault ≡ None
  pub out : new.out.written ≡ then_bytes old.out.written (text_of (replies_of a x) (keys_of a bytes).keys)
  pub status_is : status ≡ status_by ((replies_of a x).complete (keys_of a bytes).keys)

-- it spells nothing, and out is as before
abbrev pub IsRefused : {L F : Type 0} → Asking L F → Outside → Outside → Files → Type 0
IsRefused {F = F} a old new files = (fault : F) × IsBad a.meaning.spelling files a.named.function fault × (new.out.written ≡ old.out.written)

-- A query that found disk, out and err in the old state left them in the new one, with this status.
pub record Asks {L F : Type 0} (a : Asking L F) (old new : Outside) (result : ℕ) : Type 0 where
  pub does : Does (frame_of a) old new result
  pub answered : (result ≡ 0) ⊎ (result ≡ 1) → ForSome old.disk.files (IsAnswered a old new result)
  pub refused : result ≡ 3 → ForSome old.disk.files (IsRefused a old new)
