-- What each end of a query leaves.
use Rattle.std.specs.Prelude.{◌≡◌, ◌≤◌, ℕ, List, [], ◌++◌, take, drop, Option, None, Some, Result, Ok, Err, Bool}
use Rattle.cm_io.specs.Causes.{Rose}
use Rattle.cm_io.specs.Files.{Files, file_at}
use Rattle.cm_io.specs.Passes.{Told}
use Rattle.cm_io.specs.Writing.{then_bytes}
use Rattle.cm_io.specs.declared.key_pass.KeyFault.{KeyFault}
use Rattle.cm_io.specs.declared.key_pass.KeyFault.TheVariants as key_fault
use Rattle.cm_keys.specs.Lines.{keys_in}
use Rattle.cm_query_batch.specs.declared.fault.QueryFault.{QueryFault}
use Rattle.cm_query_batch.specs.declared.fault.QueryFault.TheVariants as query_fault
use Rattle.cm_tool_asking.specs.Asking.{Asking, keys_of, replies_of}
use Rattle.cm_tool_asking.specs.Loads.{IsBad, Spells}
use Rattle.cm_tool_asking.specs.Meanings.{Replies, notes_of, text_of}
use Rattle.cm_tool_asking.specs.declared.unloaded.Unloaded.{Unloaded}
use Rattle.cm_tool_asking.specs.declared.unloaded.Unloaded.TheVariants as unloaded
use Rattle.cm_tool_stops.specs.declared.stop.QueryStop.{QueryStop}
use Rattle.cm_tool_stops.specs.declared.stop.QueryStop.TheVariants.{Memory, NoFunction, BadFile, Read, Write, TooLong, TooMany}

-- why a failed load stops a query
abbrev pub stop_from_load : {F : Type 0} → Unloaded F → QueryStop F
stop_from_load unloaded.Memory = Memory
stop_from_load unloaded.Read = NoFunction
stop_from_load (unloaded.Bad fault) = BadFile fault

-- why a failed query of a pass stops a query
abbrev pub stop_from_query : {F : Type 0} → QueryFault → QueryStop F
stop_from_query query_fault.Memory = Memory
stop_from_query (query_fault.Key key_fault.Read) = Read
stop_from_query (query_fault.Key (key_fault.TooLong line)) = TooLong line
stop_from_query (query_fault.Key key_fault.TooMany) = TooMany
stop_from_query query_fault.Write = Write

-- which counts a query that stopped has raised: that of reading, and that of out
abbrev pub IsStopCause : {F : Type 0} → ℕ → ℕ → ℕ → ℕ → QueryStop F → Type 0
IsStopCause r r' o o' NoFunction = (r ≤ r') × Rose r r' × (o' ≡ o)
IsStopCause r r' o o' Read = (r ≤ r') × Rose r r' × (o' ≡ o)
IsStopCause r r' o o' Write = (r' ≡ r) × (o ≤ o') × Rose o o'
IsStopCause r r' o o' stop = (r' ≡ r) × (o' ≡ o)

-- and one that came to its end has raised none
abbrev pub HasStopCause : {T F : Type 0} → ℕ → ℕ → ℕ → ℕ → Result T (QueryStop F) → Type 0
HasStopCause r r' o o' (Ok x) = (r' ≡ r) × (o' ≡ o)
HasStopCause r r' o o' (Err stop) = IsStopCause r r' o o' stop

-- a query for which nothing was loaded, or memory ran out, printed nothing
abbrev pub KeepsOut : {F : Type 0} → Option (List ℕ) → Option (List ℕ) → QueryStop F → Type 0
KeepsOut old new Memory = new ≡ old
KeepsOut old new NoFunction = new ≡ old
KeepsOut old new (BadFile fault) = new ≡ old
KeepsOut old new stop = Unit {0}

-- keys, and what is written of them
pub record Question : Type 0 where
  pub replies : Replies
  pub keys : List (ℕ × List ℕ)

-- what out had and has, and what was noted
pub record Wrote : Type 0 where
  pub old : Option (List ℕ)
  pub new : Option (List ℕ)
  pub notes : List ℕ

abbrev pub wrote : Option (List ℕ) → Option (List ℕ) → List ℕ → Wrote
wrote old new notes = record { old = old; new = new; notes = notes }

-- The first `given` keys were answered, with their notes. Of the text of the next one, out got a prefix.
pub record AskedPart (q : Question) (w : Wrote) (given rest : ℕ) : Type 0 where
  pub out : w.new ≡ then_bytes w.old (text_of q.replies (take given q.keys) ++ take rest (text_of q.replies (take 1 (drop given q.keys))))
  pub notes_are : w.notes ≡ notes_of q.replies (take given q.keys)

-- All keys were answered, with their notes, up to this fault or none.
pub record AskedAll (r : Replies) (told : Told) (w : Wrote) (fault : Option KeyFault) : Type 0 where
  pub fault_is : told.fault ≡ fault
  pub out : w.new ≡ then_bytes w.old (text_of r told.keys)
  pub notes_are : w.notes ≡ notes_of r told.keys

-- neither out nor err got anything before the message
abbrev pub GotNothing : Wrote → Type 0
GotNothing w = (w.new ≡ w.old) × (w.notes ≡ [])

-- how known keys were asked for
abbrev pub EndsPass : Replies → Told → Wrote → Result Bool QueryFault → Type 0
EndsPass r told w (Ok complete) = AskedAll r told w None × (complete ≡ r.complete told.keys)
EndsPass r told w (Err query_fault.Memory) = GotNothing w
EndsPass r told w (Err (query_fault.Key key_fault.Read)) = (given : ℕ) × AskedPart (record { replies = r; keys = told.keys }) w given 0
EndsPass r told w (Err (query_fault.Key (key_fault.TooLong line))) = AskedAll r told w (Some (key_fault.TooLong line))
EndsPass r told w (Err (query_fault.Key key_fault.TooMany)) = AskedAll r told w (Some key_fault.TooMany)
EndsPass r told w (Err query_fault.Write) = (given : ℕ) × (rest : ℕ) × AskedPart (record { replies = r; keys = told.keys }) w given rest

-- the keys of a keys file, if there is one
abbrev pub keys_there : Option ℕ → ℕ → Option (List ℕ) → List (ℕ × List ℕ)
keys_there first end None = []
keys_there first end (Some bytes) = (keys_in first end bytes).keys

-- what was loaded is asked for the keys of the keys file
abbrev pub question_over : {L F : Type 0} → Asking L F → L → Option (List ℕ) → Question
question_over a x file = record { replies = replies_of a x; keys = keys_there a.first a.end file }

abbrev pub question_of : {L F : Type 0} → Asking L F → L → Files → Question
question_of a x files = question_over a x (file_at files a.named.keys)

-- all keys of the keys file were answered, up to this fault or none
abbrev pub AnsweredAll : {L F : Type 0} → Asking L F → L → Files → Wrote → Option KeyFault → Type 0
AnsweredAll a x files w fault = (bytes : List ℕ) × (file_at files a.named.keys ≡ Some bytes) × AskedAll (replies_of a x) (keys_of a bytes) w fault

-- and the query came to its end
pub record Answered {L F : Type 0} (a : Asking L F) (x : L) (files : Files) (w : Wrote) (complete : Bool) : Type 0 where
  pub bytes : List ℕ
  pub there : file_at files a.named.keys ≡ Some bytes
  pub all : AskedAll (replies_of a x) (keys_of a bytes) w None
  pub complete_is : complete ≡ (replies_of a x).complete (keys_of a bytes).keys

-- out could not be written, with the keys file there
pub record AnsweredPart {L F : Type 0} (a : Asking L F) (x : L) (files : Files) (w : Wrote) : Type 0 where
  pub bytes : List ℕ
  pub there : file_at files a.named.keys ≡ Some bytes
  pub given : ℕ
  pub rest : ℕ
  pub part : AskedPart (question_of a x files) w given rest

-- how the keys of the keys file were asked for, by what was loaded
abbrev pub EndsKeys : {L F : Type 0} → Asking L F → L → Files → Wrote → Result Bool (QueryStop F) → Type 0
EndsKeys a x files w (Ok complete) = Answered a x files w complete
EndsKeys a x files w (Err Memory) = GotNothing w
EndsKeys a x files w (Err NoFunction) = ⊥
EndsKeys a x files w (Err (BadFile fault)) = ⊥
EndsKeys a x files w (Err Read) = (given : ℕ) × AskedPart (question_of a x files) w given 0
EndsKeys a x files w (Err Write) = AnsweredPart a x files w
EndsKeys a x files w (Err (TooLong line)) = AnsweredAll a x files w (Some (key_fault.TooLong line))
EndsKeys a x files w (Err TooMany) = AnsweredAll a x files w (Some key_fault.TooMany)

-- the file that is asked spells something, by which the keys were asked for
abbrev pub EndsLoaded : {L F : Type 0} → Asking L F → Files → Wrote → Result Bool (QueryStop F) → Type 0
EndsLoaded {L = L} a files w result = (x : L) × Spells a.meaning.spelling files a.named.function x × EndsKeys a x files w result

-- how a query over files ended
abbrev pub EndsQuery : {L F : Type 0} → Asking L F → Files → Wrote → Result Bool (QueryStop F) → Type 0
EndsQuery a files w (Err Memory) = GotNothing w
EndsQuery a files w (Err NoFunction) = GotNothing w
EndsQuery a files w (Err (BadFile fault)) = IsBad a.meaning.spelling files a.named.function fault × GotNothing w
EndsQuery a files w result = EndsLoaded a files w result
