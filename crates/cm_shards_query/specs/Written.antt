-- What is written of the lines of a keys file, under numbers of keys.
use Rattle.std.specs.Prelude.{ℕ, List, [], length, Option, None, Some, Bool, true, false, Result, Ok, Err, is_some}
use Rattle.std.specs.List.{list_all}
use Rattle.cm_io.specs.Passes.{Told}
use Rattle.cm_io.specs.declared.key_pass.KeyFault.{KeyFault}
use Rattle.cm_query.specs.Texts.{line_of}
use Rattle.cm_shards_files.specs.Shards.{Sharded, key_total, number_in}
use Rattle.cm_shards_query.specs.Texts.{note_without, verdict_text}
use Rattle.cm_shards_query.specs.Verdicts.{count_verdict, first_fault, verdict_status}
use Rattle.cm_shards_query.specs.declared.verdict.Verdict.{Verdict}
use Rattle.cm_tool_asking.specs.Asking.{status_by}
use Rattle.cm_tool_asking.specs.Meanings.{Replies, notes_of, text_of}

-- the number of each key, if it has one, and how many keys there are
pub record Numbers : Type 0 where
  pub number : List ℕ → Option ℕ
  pub keys : ℕ

-- those of the functions of shards
abbrev pub numbers_of : Sharded → Numbers
numbers_of s = record { number = number_in s; keys = key_total s }

-- What a query writes of lines: the text of each with a number, and notes of the others. Nothing is amiss if all have one.
abbrev pub number_replies : (List ℕ → Option ℕ) → ℕ → Replies
number_replies f end = record {
  line = λ key. line_of end key (f key);
  note = λ earlier k. note_without k.0 (f k.1);
  complete = λ lines. list_all (λ k. is_some (f k.1)) lines;
}

-- what a test of lines comes to: what is wrong with the first at fault; or else the fault at their end; or else what their number says
abbrev pub test_by : Option Verdict → Option KeyFault → Verdict → Result Verdict KeyFault
test_by (Some verdict) fault counted = Ok verdict
test_by None (Some fault) counted = Err fault
test_by None None counted = Ok counted

abbrev pub test_end : Numbers → Told → Result Verdict KeyFault
test_end n told = test_by (first_fault n.number told.keys) told.fault (count_verdict (length told.keys) n.keys)

-- What is made of lines: the text on out, the notes on err, the fault that is said after them, and the status.
pub record Reply : Type 0 where
  pub out : List ℕ
  pub notes : List ℕ
  pub fault : Option KeyFault
  pub status : ℕ

-- a verdict is printed, or the fault is said
abbrev pub test_reply : Result Verdict KeyFault → Reply
test_reply (Ok verdict) = record { out = verdict_text verdict; notes = []; fault = None; status = verdict_status verdict }
test_reply (Err fault) = record { out = []; notes = []; fault = Some fault; status = 8 }

-- all lines are answered, whether or not a fault is at their end
abbrev pub status_with : Option KeyFault → Bool → ℕ
status_with None complete = status_by complete
status_with (Some fault) complete = 8

abbrev pub query_reply : Replies → Told → Reply
query_reply r told = record { out = text_of r told.keys; notes = notes_of r told.keys; fault = told.fault; status = status_with told.fault (r.complete told.keys) }

-- by whether it is a test, and the byte that ends a line
abbrev pub reply_by : Bool → ℕ → Numbers → Told → Reply
reply_by true end n told = test_reply (test_end n told)
reply_by false end n told = query_reply (number_replies n.number end) told
