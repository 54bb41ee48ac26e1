-- From the end of a query to what the driver promises.
use Rattle.std.proofs.Common.{◌≡◌, ◌≢◌, ◌∙◌, ◌⊎◌, ◌↔◌, ℕ, ◌<◌, ◌^◌, ◌≤◌, List, [], ◌++◌, Option, None, Some, Ok, Err, inl, inr, refl, ap, sym, subst, arith, append-nil, Bool, true, false}
use Rattle.std.proofs.Math.Seq.{take-nil}
use Rattle.cm_io.specs.Files.{Files, file_at}
use Rattle.cm_io.specs.Noting.{HasNoted}
use Rattle.cm_io.specs.States.{Outside, SinkState}
use Rattle.cm_io.specs.Writing.{then_bytes}
use Rattle.cm_io.specs.WritingLaws.{then_nothing}
use Rattle.cm_io.specs.declared.key_pass.KeyFault.{KeyFault}
use Rattle.cm_io.specs.declared.key_pass.KeyFault.TheVariants as key_fault
use Rattle.cm_spec.specs.Lists.{has}
use Rattle.cm_tool_asking.specs.Asking.{Asking, answering, keys_of, outcome_of, replies_of, status_by}
use Rattle.cm_tool_asking.specs.Asks.{IsAnswered, IsCutShort, IsRefused, frame_of}
use Rattle.cm_tool_asking.specs.Leaves.{AnsweredAll, AskedPart, EndsLoaded, EndsQuery, IsStopCause, KeepsOut, Question, Wrote, question_of, question_over, wrote}
use Rattle.cm_tool_asking.specs.Loads.{Spells}
use Rattle.cm_tool_asking.specs.Meanings.{text_of}
use Rattle.cm_tool_asking.specs.OutcomeLaws.{asked_outcome, bad_outcome}
use Rattle.cm_tool_stops.specs.DoesLaws.{neither}
use Rattle.cm_tool_stops.specs.EndLaws.{says_all}
use Rattle.cm_tool_stops.specs.Ending.{LacksFile, Outcome, Reaches, refusal}
use Rattle.cm_tool_stops.specs.Ends.{Says, query_message_of, query_status_of}
use Rattle.cm_tool_stops.specs.Messages.{fault_message}
use Rattle.cm_tool_stops.specs.declared.stop.QueryStop.{QueryStop}
use Rattle.cm_tool_stops.specs.declared.stop.QueryStop.TheVariants.{Memory, NoFunction, BadFile, Read, Write, TooLong, TooMany}

none_some : {o : Outcome} → None ≡ Some o → ⊥
none_some e = absurd (cc)

-- the status of a query is one of a query's
pub done_status : {L F : Type 0} (a : Asking L F) (complete : Bool) → has (frame_of a).statuses (status_by complete) ≡ true
done_status a true = refl
done_status a false = refl

pub stop_status : {L F : Type 0} (a : Asking L F) (stop : QueryStop F) → has (frame_of a).statuses (query_status_of stop) ≡ true
stop_status a Memory = refl
stop_status a NoFunction = refl
stop_status a (BadFile fault) = refl
stop_status a Read = refl
stop_status a Write = refl
stop_status a (TooLong line) = refl
stop_status a TooMany = refl

-- one that came to its end may have printed
pub printed : {L F : Type 0} (a : Asking L F) (complete : Bool) → has (frame_of a).prints (status_by complete) ≡ false → ⊥
printed a true lacks = absurd (cc)
printed a false lacks = absurd (cc)

-- and none has the status of keys that changed
pub unlisted_seven : {L F : Type 0} (a : Asking L F) (stop : QueryStop F) (status : ℕ) → status ≡ query_status_of stop → status ≢ 7
unlisted_seven a Memory status is seven = absurd (omega (arith, is, seven))
unlisted_seven a NoFunction status is seven = absurd (omega (arith, is, seven))
unlisted_seven a (BadFile fault) status is seven = absurd (omega (arith, is, seven))
unlisted_seven a Read status is seven = absurd (omega (arith, is, seven))
unlisted_seven a Write status is seven = absurd (omega (arith, is, seven))
unlisted_seven a (TooLong line) status is seven = absurd (omega (arith, is, seven))
unlisted_seven a TooMany status is seven = absurd (omega (arith, is, seven))

-- if it came to its end, it is 0 or 1
pub done_low : (complete : Bool) → status_by complete ≤ 1
done_low true = omega arith
done_low false = omega arith

-- it is 4 exactly if the count of reading rose
pub stop_read : {F : Type 0} (stop : QueryStop F) (r r_now o o_now : ℕ) → IsStopCause r r_now o o_now stop → r < 2 ^ 63 → (query_status_of stop ≡ 4) ↔ (r < r_now)
stop_read Memory r r_now o o_now cause low = (λ four. absurd (omega (arith, four)), λ rose. absurd (omega (arith, rose, cause.0)))
stop_read NoFunction r r_now o o_now cause low = (λ _. cause.1 low, λ _. refl)
stop_read (BadFile fault) r r_now o o_now cause low = (λ four. absurd (omega (arith, four)), λ rose. absurd (omega (arith, rose, cause.0)))
stop_read Read r r_now o o_now cause low = (λ _. cause.1 low, λ _. refl)
stop_read Write r r_now o o_now cause low = (λ four. absurd (omega (arith, four)), λ rose. absurd (omega (arith, rose, cause.0)))
stop_read (TooLong line) r r_now o o_now cause low = (λ four. absurd (omega (arith, four)), λ rose. absurd (omega (arith, rose, cause.0)))
stop_read TooMany r r_now o o_now cause low = (λ four. absurd (omega (arith, four)), λ rose. absurd (omega (arith, rose, cause.0)))

-- it is 5 exactly if that of out rose, as no file is written
pub stop_write : {F : Type 0} (stop : QueryStop F) (r r_now w w_now o o_now : ℕ) → IsStopCause r r_now o o_now stop → w_now ≡ w → o < 2 ^ 63 → (query_status_of stop ≡ 5) ↔ ((w < w_now) ⊎ (o < o_now))
stop_write Memory r r_now w w_now o o_now cause same low = (λ five. absurd (omega (arith, five)), λ either. neither w w_now o o_now same cause.1 either)
stop_write NoFunction r r_now w w_now o o_now cause same low = (λ five. absurd (omega (arith, five)), λ either. neither w w_now o o_now same cause.2 either)
stop_write (BadFile fault) r r_now w w_now o o_now cause same low = (λ five. absurd (omega (arith, five)), λ either. neither w w_now o o_now same cause.1 either)
stop_write Read r r_now w w_now o o_now cause same low = (λ five. absurd (omega (arith, five)), λ either. neither w w_now o o_now same cause.2 either)
stop_write Write r r_now w w_now o o_now cause same low = (λ _. inr (cause.2 low), λ _. refl)
stop_write (TooLong line) r r_now w w_now o o_now cause same low = (λ five. absurd (omega (arith, five)), λ either. neither w w_now o o_now same cause.1 either)
stop_write TooMany r r_now w w_now o o_now cause same low = (λ five. absurd (omega (arith, five)), λ either. neither w w_now o o_now same cause.1 either)

-- out is as it was, unless something was printed
pub stop_quiet : {L F : Type 0} (a : Asking L F) (stop : QueryStop F) (out out_now : Option (List ℕ)) → KeepsOut out out_now stop → has (frame_of a).prints (query_status_of stop) ≡ false → out_now ≡ out
stop_quiet a Memory out out_now kept lacks = kept
stop_quiet a NoFunction out out_now kept lacks = kept
stop_quiet a (BadFile fault) out out_now kept lacks = kept
stop_quiet a Read out out_now kept lacks = absurd (cc)
stop_quiet a Write out out_now kept lacks = absurd (cc)
stop_quiet a (TooLong line) out out_now kept lacks = absurd (cc)
stop_quiet a TooMany out out_now kept lacks = absurd (cc)

-- a query that came to its end
pub done : {L F : Type 0} (a : Asking L F) (files : Files) (old new : Outside) (notes : List ℕ) (complete : Bool) → EndsLoaded a files (wrote old.out.written new.out.written notes) (Ok complete) → Says old.err new.err notes → new.disk.files ≡ Some files
    → Reaches old new (outcome_of a files) (status_by complete)
done a files old new notes complete ends says same =
    let x = ends.0 in
    let answered = ends.2 in
    record {
      outcome = answering a files (replies_of a x) (keys_of a answered.bytes).keys None;
      is = asked_outcome a files x answered.bytes None _ ends.1 answered.there answered.all.fault_is refl;
      status_is = ap status_by answered.complete_is;
      out = answered.all.out;
      err = rw (sym answered.all.notes_are) says;
      files_are = same;
    }

pub answered : {L F : Type 0} (a : Asking L F) (files : Files) (old new : Outside) (notes : List ℕ) (complete : Bool) → EndsLoaded a files (wrote old.out.written new.out.written notes) (Ok complete) → IsAnswered a old new (status_by complete) files
answered a files old new notes complete ends =
    let it = ends.2 in
    record { x = ends.0; spells = ends.1; bytes = it.bytes; there = it.there; sound = it.all.fault_is; out = it.all.out; status_is = ap status_by it.complete_is }

-- there is an outcome of one
pub none_done : {L F : Type 0} (a : Asking L F) (files : Files) (w : Wrote) (complete : Bool) → EndsLoaded a files w (Ok complete) → outcome_of a files ≡ None → ⊥
none_done a files w complete ends none = none_some (sym none ∙ asked_outcome a files ends.0 ends.2.bytes _ _ ends.1 ends.2.there refl refl)

-- a query that stopped has neither status
pub stop_high : {F P : Type 0} (stop : QueryStop F) → (query_status_of stop ≡ 0) ⊎ (query_status_of stop ≡ 1) → P
stop_high Memory either = absurd (omega (arith, either))
stop_high NoFunction either = absurd (omega (arith, either))
stop_high (BadFile fault) either = absurd (omega (arith, either))
stop_high Read either = absurd (omega (arith, either))
stop_high Write either = absurd (omega (arith, either))
stop_high (TooLong line) either = absurd (omega (arith, either))
stop_high TooMany either = absurd (omega (arith, either))

-- and one with status 3 had a file that spells nothing
pub refused : {L F : Type 0} (a : Asking L F) (files : Files) (old new : Outside) (notes : List ℕ) (stop : QueryStop F) → EndsQuery a files (wrote old.out.written new.out.written notes) (Err stop) → query_status_of stop ≡ 3 → IsRefused a old new files
refused a files old new notes Memory ends three = absurd (omega (arith, three))
refused a files old new notes NoFunction ends three = absurd (omega (arith, three))
refused a files old new notes (BadFile fault) ends three = (fault, ends.0, ends.1.0)
refused a files old new notes Read ends three = absurd (omega (arith, three))
refused a files old new notes Write ends three = absurd (omega (arith, three))
refused a files old new notes (TooLong line) ends three = absurd (omega (arith, three))
refused a files old new notes TooMany ends three = absurd (omega (arith, three))

-- a query that stopped at a fault of a line
stopped_at_line : {L F : Type 0} (a : Asking L F) (files : Files) (old new : Outside) (notes : List ℕ) (x : L) (fault : KeyFault) → Spells a.meaning.spelling files a.named.function x → AnsweredAll a x files (wrote old.out.written new.out.written notes) (Some fault)
    → Says old.err new.err (notes ++ fault_message a.named.program a.named.keys fault) → new.disk.files ≡ Some files → Reaches old new (outcome_of a files) 8
stopped_at_line a files old new notes x fault spells answered says same =
    let all = answered.2 in
    record {
      outcome = answering a files (replies_of a x) (keys_of a answered.0).keys (Some fault);
      is = asked_outcome a files x answered.0 (Some fault) _ spells answered.1 all.fault_is refl;
      status_is = refl;
      out = all.out;
      err = rw (sym all.notes_are) says;
      files_are = same;
    }

-- a query that stopped, but not for memory or a fault of a file or of out
pub stopped : {L F : Type 0} (a : Asking L F) (files : Files) (old new : Outside) (notes : List ℕ) (stop : QueryStop F) → EndsQuery a files (wrote old.out.written new.out.written notes) (Err stop)
    → Says old.err new.err (notes ++ query_message_of a.message a.named stop) → query_status_of stop ≢ 4 → query_status_of stop ≢ 5 → query_status_of stop ≢ 6 → new.disk.files ≡ Some files → Reaches old new (outcome_of a files) (query_status_of stop)
stopped a files old new notes Memory ends says four five six same = absurd (six refl)
stopped a files old new notes NoFunction ends says four five six same = absurd (four refl)
stopped a files old new notes (BadFile fault) ends says four five six same = record {
  outcome = refusal 3 (a.message fault a.named) files;
  is = bad_outcome a files fault ends.0;
  status_is = refl;
  out = ends.1.0 ∙ then_nothing old.out.written;
  err = subst (λ (ns : List ℕ). Says old.err new.err (ns ++ a.message fault a.named)) ends.1.1 says;
  files_are = same;
}
stopped a files old new notes Read ends says four five six same = absurd (four refl)
stopped a files old new notes Write ends says four five six same = absurd (five refl)
stopped a files old new notes (TooLong line) ends says four five six same = stopped_at_line a files old new notes ends.0 (key_fault.TooLong line) ends.1 ends.2 says same
stopped a files old new notes TooMany ends says four five six same = stopped_at_line a files old new notes ends.0 key_fault.TooMany ends.1 ends.2 says same

-- a query of a keys file that isn't there
unread : {L F : Type 0} (a : Asking L F) (files : Files) (x : L) (file : Option (List ℕ)) (w : Wrote) (given : ℕ) → Spells a.meaning.spelling files a.named.function x → file_at files a.named.keys ≡ file → AskedPart (question_of a x files) w given 0 → outcome_of a files ≡ None → w.new ≡ w.old
unread a files x None w given spells is asked none =
    let here : question_of a x files ≡ question_over a x None = ap (question_over a x) is in
    let part = subst (λ (q : Question). AskedPart q w given 0) here asked in
    part.out ∙ ap (λ (keys : List (ℕ × List ℕ)). then_bytes w.old (text_of (replies_of a x) keys ++ [])) (take-nil given) ∙ sym (then_nothing w.old)
unread a files x (Some bytes) w given spells is asked none = absurd (none_some (sym none ∙ asked_outcome a files x bytes _ _ spells is refl refl))

-- a query that stopped over files by which there is no outcome
pub lacking : {L F : Type 0} (a : Asking L F) (files : Files) (old new : Outside) (notes : List ℕ) (stop : QueryStop F) → EndsQuery a files (wrote old.out.written new.out.written notes) (Err stop) → new.disk.files ≡ old.disk.files → outcome_of a files ≡ None
    → LacksFile old new (query_status_of stop)
lacking a files old new notes Memory ends same none = record { status_is = inr refl; files_are = same; out = ends.0 }
lacking a files old new notes NoFunction ends same none = record { status_is = inl refl; files_are = same; out = ends.0 }
lacking a files old new notes (BadFile fault) ends same none = absurd (none_some (sym none ∙ bad_outcome a files fault ends.0))
lacking a files old new notes Read ends same none = record { status_is = inl refl; files_are = same; out = unread a files ends.0 _ (wrote old.out.written new.out.written notes) ends.2.0 ends.1 refl ends.2.1 none }
lacking a files old new notes Write ends same none = absurd (none_some (sym none ∙ asked_outcome a files ends.0 ends.2.bytes _ _ ends.1 ends.2.there refl refl))
lacking a files old new notes (TooLong line) ends same none = absurd (none_some (sym none ∙ asked_outcome a files ends.0 ends.2.0 _ _ ends.1 ends.2.1 refl refl))
lacking a files old new notes TooMany ends same none = absurd (none_some (sym none ∙ asked_outcome a files ends.0 ends.2.0 _ _ ends.1 ends.2.1 refl refl))

-- a query that a fault cut short, or for which memory ran out
pub cut_short : {L F : Type 0} (a : Asking L F) (files : Files) (old new : Outside) (notes : List ℕ) (stop : QueryStop F) → EndsQuery a files (wrote old.out.written new.out.written notes) (Err stop) → Says old.err new.err (notes ++ query_message_of a.message a.named stop)
    → (query_status_of stop ≡ 4) ⊎ (query_status_of stop ≡ 5) ⊎ (query_status_of stop ≡ 6) → IsCutShort a old new files (query_status_of stop)
cut_short a files old new notes Memory ends says either = record { notes = notes; text = _; says = says; read = λ e. absurd (omega arith); write = λ e. absurd (omega arith); memory = λ e. (ends, refl) }
cut_short a files old new notes NoFunction ends says either = record { notes = notes; text = _; says = says; read = λ e. inl (ends, refl); write = λ e. absurd (omega arith); memory = λ e. absurd (omega arith) }
cut_short a files old new notes (BadFile fault) ends says either = absurd (omega (arith, either))
cut_short a files old new notes Read ends says either = record { notes = notes; text = _; says = says; read = λ e. inr (ends.0, ends.2.0, ends.1, ends.2.1, refl); write = λ e. absurd (omega arith); memory = λ e. absurd (omega arith) }
cut_short a files old new notes Write ends says either = record { notes = notes; text = _; says = says; read = λ e. absurd (omega arith); write = λ e. (ends.0, ends.2.given, ends.2.rest, ends.1, ends.2.part, refl); memory = λ e. absurd (omega arith) }
cut_short a files old new notes (TooLong line) ends says either = absurd (omega (arith, either))
cut_short a files old new notes TooMany ends says either = absurd (omega (arith, either))

-- what was noted is said, and nothing after it
pub says_more : {f : Bool} {a b : SinkState} {text : List ℕ} → HasNoted f a b text → Says a b (text ++ [])
says_more {a = a} {b = b} {text = text} noted = subst (λ (t : List ℕ). Says a b t) (sym (append-nil text)) (says_all noted)
