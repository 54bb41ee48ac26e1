-- From the end of a job to what it promises.
use Rattle.std.proofs.Common.{◌≡◌, ◌≢◌, ◌∙◌, ◌⊎◌, ◌↔◌, ℕ, ◌<◌, ◌^◌, ◌≤◌, List, [], ◌++◌, Option, None, Some, Ok, Err, inl, inr, refl, ap, sym, subst, arith, append-nil, Bool, true, false}
use Rattle.std.specs.Option.{option_map}
use Rattle.std.proofs.Math.Seq.{take-nil}
use Rattle.cm_io.specs.Files.{Files, file_at}
use Rattle.cm_io.specs.Noting.{HasNoted}
use Rattle.cm_io.specs.States.{Outside, SinkState}
use Rattle.cm_io.specs.Writing.{then_bytes}
use Rattle.cm_io.specs.WritingLaws.{then_nothing}
use Rattle.cm_io.specs.declared.key_pass.KeyFault.{KeyFault}
use Rattle.cm_io.specs.declared.key_pass.KeyFault.TheVariants as key_fault
use Rattle.cm_shards_files.specs.Loading.{IsShardsCause, shards_of}
use Rattle.cm_shards_files.specs.Shards.{Sharded, key_total, number_in}
use Rattle.cm_shards_files.specs.declared.fault.ShardsFault.{ShardsFault}
use Rattle.cm_shards_files.specs.declared.fault.ShardsFault.TheVariants as shards_fault
use Rattle.cm_shards_query.proofs.Truth.{test_truth}
use Rattle.cm_shards_query.specs.Asks.{IsCutShort, IsTested, frame_of}
use Rattle.cm_shards_query.specs.Leaves.{AnsweredAll, EndsJob, EndsLoaded, IsPartBefore, IsStopCause, lines_there, stop_message, stop_status}
use Rattle.cm_shards_query.specs.Outcomes as outcomes
use Rattle.cm_shards_query.specs.Outcomes.{fault_said, lines_of, outcome_by, outcome_of, replying}
use Rattle.cm_shards_query.specs.Texts.{load_message, load_status}
use Rattle.cm_shards_query.specs.Written.{Numbers, number_replies, numbers_of, reply_by}
use Rattle.cm_shards_query.specs.declared.stop.AskStop.{AskStop}
use Rattle.cm_shards_query.specs.declared.stop.AskStop.TheVariants.{Load, Memory, Read, TooLong, TooMany, Write}
use Rattle.cm_shards_words.specs.declared.jobs.AskJob.{AskJob}
use Rattle.cm_spec.specs.Lists.{has}
use Rattle.cm_tool_asking.specs.Asking.{status_by}
use Rattle.cm_tool_asking.specs.Leaves.{Wrote, wrote}
use Rattle.cm_tool_asking.specs.Meanings.{text_of}
use Rattle.cm_tool_stops.specs.DoesLaws.{neither}
use Rattle.cm_tool_stops.specs.EndLaws.{says_all}
use Rattle.cm_tool_stops.specs.Ending.{LacksFile, Outcome, Reaches, refusal}
use Rattle.cm_tool_stops.specs.Ends.{Says}

none_some : {o : Outcome} → None ≡ Some o → ⊥
none_some e = absurd (cc)

-- the status is one of a job's
pub done_status : (job : AskJob) (complete : Bool) → has (frame_of job).statuses (status_by complete) ≡ true
done_status job true = refl
done_status job false = refl

-- one that came to its end may have printed
pub printed : (job : AskJob) (complete : Bool) → has (frame_of job).prints (status_by complete) ≡ false → ⊥
printed job true lacks = absurd (cc)
printed job false lacks = absurd (cc)

load_listed : (job : AskJob) (fault : ShardsFault) → has (frame_of job).statuses (load_status fault) ≡ true
load_listed job shards_fault.Memory = refl
load_listed job shards_fault.NoManifest = refl
load_listed job (shards_fault.BadManifest fault) = refl
load_listed job (shards_fault.NoFunction path) = refl
load_listed job (shards_fault.BadFunction path fault) = refl
load_listed job (shards_fault.Another path) = refl

pub stop_listed : (job : AskJob) (stop : AskStop) → has (frame_of job).statuses (stop_status stop) ≡ true
stop_listed job Memory = refl
stop_listed job (Load fault) = load_listed job fault
stop_listed job Read = refl
stop_listed job Write = refl
stop_listed job (TooLong line) = refl
stop_listed job TooMany = refl

-- that of a job that came to its end is 0 or 1
pub done_low : (complete : Bool) → status_by complete ≤ 1
done_low true = omega arith
done_low false = omega arith

-- that of one that stopped is neither, and it is 5 only if out can't be written
load_high : (fault : ShardsFault) → (2 ≤ load_status fault) × (load_status fault ≢ 5)
load_high shards_fault.Memory = (omega arith, λ five. absurd (omega (arith, five)))
load_high shards_fault.NoManifest = (omega arith, λ five. absurd (omega (arith, five)))
load_high (shards_fault.BadManifest fault) = (omega arith, λ five. absurd (omega (arith, five)))
load_high (shards_fault.NoFunction path) = (omega arith, λ five. absurd (omega (arith, five)))
load_high (shards_fault.BadFunction path fault) = (omega arith, λ five. absurd (omega (arith, five)))
load_high (shards_fault.Another path) = (omega arith, λ five. absurd (omega (arith, five)))

pub stop_high : (stop : AskStop) → 2 ≤ stop_status stop
stop_high Memory = omega arith
stop_high (Load fault) = (load_high fault).0
stop_high Read = omega arith
stop_high Write = omega arith
stop_high (TooLong line) = omega arith
stop_high TooMany = omega arith

-- it is 4 exactly if the count of reading rose
load_read : (fault : ShardsFault) (r r_now : ℕ) → IsShardsCause r r_now fault → r < 2 ^ 63 → (load_status fault ≡ 4) ↔ (r < r_now)
load_read shards_fault.Memory r r_now cause low = (λ four. absurd (omega (arith, four)), λ rose. absurd (omega (arith, rose, cause)))
load_read shards_fault.NoManifest r r_now cause low = (λ _. cause.1 low, λ _. refl)
load_read (shards_fault.BadManifest fault) r r_now cause low = (λ four. absurd (omega (arith, four)), λ rose. absurd (omega (arith, rose, cause)))
load_read (shards_fault.NoFunction path) r r_now cause low = (λ _. cause.1 low, λ _. refl)
load_read (shards_fault.BadFunction path fault) r r_now cause low = (λ four. absurd (omega (arith, four)), λ rose. absurd (omega (arith, rose, cause)))
load_read (shards_fault.Another path) r r_now cause low = (λ four. absurd (omega (arith, four)), λ rose. absurd (omega (arith, rose, cause)))

pub stop_read : (stop : AskStop) (r r_now o o_now : ℕ) → IsStopCause r r_now o o_now stop → r < 2 ^ 63 → (stop_status stop ≡ 4) ↔ (r < r_now)
stop_read Memory r r_now o o_now cause low = (λ four. absurd (omega (arith, four)), λ rose. absurd (omega (arith, rose, cause.0)))
stop_read (Load fault) r r_now o o_now cause low = load_read fault r r_now cause.0 low
stop_read Read r r_now o o_now cause low = (λ _. cause.1 low, λ _. refl)
stop_read Write r r_now o o_now cause low = (λ four. absurd (omega (arith, four)), λ rose. absurd (omega (arith, rose, cause.0)))
stop_read (TooLong line) r r_now o o_now cause low = (λ four. absurd (omega (arith, four)), λ rose. absurd (omega (arith, rose, cause.0)))
stop_read TooMany r r_now o o_now cause low = (λ four. absurd (omega (arith, four)), λ rose. absurd (omega (arith, rose, cause.0)))

-- it is 5 exactly if that of out rose
pub stop_write : (stop : AskStop) (r r_now w w_now o o_now : ℕ) → IsStopCause r r_now o o_now stop → w_now ≡ w → o < 2 ^ 63 → (stop_status stop ≡ 5) ↔ ((w < w_now) ⊎ (o < o_now))
stop_write Memory r r_now w w_now o o_now cause same low = (λ five. absurd (omega (arith, five)), λ either. neither w w_now o o_now same cause.1 either)
stop_write (Load fault) r r_now w w_now o o_now cause same low = (λ five. absurd ((load_high fault).1 five), λ either. neither w w_now o o_now same cause.1 either)
stop_write Read r r_now w w_now o o_now cause same low = (λ five. absurd (omega (arith, five)), λ either. neither w w_now o o_now same cause.2 either)
stop_write Write r r_now w w_now o o_now cause same low = (λ _. inr (cause.2 low), λ _. refl)
stop_write (TooLong line) r r_now w w_now o o_now cause same low = (λ five. absurd (omega (arith, five)), λ either. neither w w_now o o_now same cause.1 either)
stop_write TooMany r r_now w w_now o o_now cause same low = (λ five. absurd (omega (arith, five)), λ either. neither w w_now o o_now same cause.1 either)

-- it is never 7
load_known : (fault : ShardsFault) → load_status fault ≢ 7
load_known shards_fault.Memory = λ seven. omega (arith, seven)
load_known shards_fault.NoManifest = λ seven. omega (arith, seven)
load_known (shards_fault.BadManifest fault) = λ seven. omega (arith, seven)
load_known (shards_fault.NoFunction path) = λ seven. omega (arith, seven)
load_known (shards_fault.BadFunction path fault) = λ seven. omega (arith, seven)
load_known (shards_fault.Another path) = λ seven. omega (arith, seven)

pub stop_known : (stop : AskStop) → stop_status stop ≢ 7
stop_known Memory = λ seven. omega (arith, seven)
stop_known (Load fault) = load_known fault
stop_known Read = λ seven. omega (arith, seven)
stop_known Write = λ seven. omega (arith, seven)
stop_known (TooLong line) = λ seven. omega (arith, seven)
stop_known TooMany = λ seven. omega (arith, seven)

-- out may have got something, unless memory ran out
load_silent : (job : AskJob) (fault : ShardsFault) → has (frame_of job).prints (load_status fault) ≡ false → load_status fault ≡ 6
load_silent job shards_fault.Memory lacks = refl
load_silent job shards_fault.NoManifest lacks = absurd (cc)
load_silent job (shards_fault.BadManifest fault) lacks = absurd (cc)
load_silent job (shards_fault.NoFunction path) lacks = absurd (cc)
load_silent job (shards_fault.BadFunction path fault) lacks = absurd (cc)
load_silent job (shards_fault.Another path) lacks = absurd (cc)

pub stop_silent : (job : AskJob) (stop : AskStop) → has (frame_of job).prints (stop_status stop) ≡ false → stop_status stop ≡ 6
stop_silent job Memory lacks = refl
stop_silent job (Load fault) lacks = load_silent job fault lacks
stop_silent job Read lacks = absurd (cc)
stop_silent job Write lacks = absurd (cc)
stop_silent job (TooLong line) lacks = absurd (cc)
stop_silent job TooMany lacks = absurd (cc)

-- the outcome over the bytes of the keys file
keys_outcome : (job : AskJob) (files : Files) (s : Sharded) (bytes : List ℕ) → shards_of files job.manifest ≡ Some (Ok s) → file_at files job.keys ≡ Some bytes → outcome_of job files ≡ Some (replying job files (reply_by job.test job.end (numbers_of s) (lines_of job bytes)))
unfolding outcomes.outcome_over
keys_outcome job files s bytes loaded there = ap (outcome_by job files) loaded ∙ ap (option_map (outcomes.outcome_over job files s)) there

-- and that of functions that were not loaded
load_outcome : (job : AskJob) (files : Files) (fault : ShardsFault) → shards_of files job.manifest ≡ Some (Err fault) → outcome_of job files ≡ Some (refusal 3 (load_message job.manifest fault) files)
load_outcome job files fault is = ap (outcome_by job files) is

-- a whole reply was written
reached : (job : AskJob) (files : Files) (old new : Outside) (notes : List ℕ) (s : Sharded) (bytes : List ℕ) (status : ℕ) (fault : Option KeyFault) → shards_of files job.manifest ≡ Some (Ok s) → file_at files job.keys ≡ Some bytes
    → AnsweredAll (reply_by job.test job.end (numbers_of s) (lines_of job bytes)) (wrote old.out.written new.out.written notes) status fault → Says old.err new.err (notes ++ fault_said job fault) → new.disk.files ≡ Some files → Reaches old new (outcome_of job files) status
reached job files old new notes s bytes status fault loaded there all says same =
    let reply = reply_by job.test job.end (numbers_of s) (lines_of job bytes) in
    record {
      outcome = replying job files reply;
      is = keys_outcome job files s bytes loaded there;
      status_is = all.status_is;
      out = all.out;
      err = subst (λ (e : Option KeyFault). Says old.err new.err (reply.notes ++ fault_said job e)) all.fault_is (subst (λ (ns : List ℕ). Says old.err new.err (ns ++ fault_said job fault)) all.notes_are says);
      files_are = same;
    }

-- a job that came to its end
pub done : (job : AskJob) (files : Files) (old new : Outside) (notes : List ℕ) (complete : Bool) → EndsLoaded job files (wrote old.out.written new.out.written notes) (Ok complete) → Says old.err new.err (notes ++ []) → new.disk.files ≡ Some files
    → Reaches old new (outcome_of job files) (status_by complete)
done job files old new notes complete ends says same = reached job files old new notes ends.0 ends.2.0 (status_by complete) None ends.1 ends.2.1 ends.2.2 says same

pub none_done : (job : AskJob) (files : Files) (w : Wrote) (complete : Bool) → EndsLoaded job files w (Ok complete) → outcome_of job files ≡ None → ⊥
none_done job files w complete ends none = none_some (sym none ∙ keys_outcome job files ends.0 ends.2.0 ends.1 ends.2.1)

-- a test that came to its end
pub tested : (job : AskJob) (files : Files) (w : Wrote) (complete : Bool) → job.test ≡ true → EndsLoaded job files w (Ok complete) → IsTested job (status_by complete) files
tested job files w complete test ends =
    let s = ends.0 in
    let bytes = ends.2.0 in
    let all : AnsweredAll (reply_by true job.end (numbers_of s) (lines_of job bytes)) w (status_by complete) None = subst (λ (t : Bool). AnsweredAll (reply_by t job.end (numbers_of s) (lines_of job bytes)) w (status_by complete) None) test ends.2.2 in
    record {
      shards = s;
      bytes = bytes;
      asked = record { loaded = ends.1; there = ends.2.1 };
      truth = test_truth (number_in s) (key_total s) (lines_of job bytes) (status_by complete) all.status_is all.fault_is;
    }

load_refused : (job : AskJob) (files : Files) (old new : Outside) (notes : List ℕ) (fault : ShardsFault) → shards_of files job.manifest ≡ Some (Err fault) → (new.out.written ≡ old.out.written) × (notes ≡ []) → Says old.err new.err (notes ++ load_message job.manifest fault) → new.disk.files ≡ Some files
    → Reaches old new (outcome_of job files) 3
load_refused job files old new notes fault is nothing says same = record {
  outcome = refusal 3 (load_message job.manifest fault) files;
  is = load_outcome job files fault is;
  status_is = refl;
  out = nothing.0 ∙ then_nothing old.out.written;
  err = subst (λ (ns : List ℕ). Says old.err new.err (ns ++ load_message job.manifest fault)) nothing.1 says;
  files_are = same;
}

load_stopped : (job : AskJob) (files : Files) (old new : Outside) (notes : List ℕ) (fault : ShardsFault) → EndsJob job files (wrote old.out.written new.out.written notes) (Err (Load fault)) → Says old.err new.err (notes ++ load_message job.manifest fault)
    → load_status fault ≢ 4 → load_status fault ≢ 6 → new.disk.files ≡ Some files → Reaches old new (outcome_of job files) (load_status fault)
load_stopped job files old new notes shards_fault.Memory ends says four six same = absurd (six refl)
load_stopped job files old new notes shards_fault.NoManifest ends says four six same = absurd (four refl)
load_stopped job files old new notes (shards_fault.BadManifest fault) ends says four six same = load_refused job files old new notes (shards_fault.BadManifest fault) ends.0 ends.1 says same
load_stopped job files old new notes (shards_fault.NoFunction path) ends says four six same = absurd (four refl)
load_stopped job files old new notes (shards_fault.BadFunction path fault) ends says four six same = load_refused job files old new notes (shards_fault.BadFunction path fault) ends.0 ends.1 says same
load_stopped job files old new notes (shards_fault.Another path) ends says four six same = load_refused job files old new notes (shards_fault.Another path) ends.0 ends.1 says same

-- a job that stopped, but not for memory or a fault of a file or of out
pub stopped : (job : AskJob) (files : Files) (old new : Outside) (notes : List ℕ) (stop : AskStop) → EndsJob job files (wrote old.out.written new.out.written notes) (Err stop) → Says old.err new.err (notes ++ stop_message job stop)
    → stop_status stop ≢ 4 → stop_status stop ≢ 5 → stop_status stop ≢ 6 → new.disk.files ≡ Some files → Reaches old new (outcome_of job files) (stop_status stop)
stopped job files old new notes Memory ends says four five six same = absurd (six refl)
stopped job files old new notes (Load fault) ends says four five six same = load_stopped job files old new notes fault ends says four six same
stopped job files old new notes Read ends says four five six same = absurd (four refl)
stopped job files old new notes Write ends says four five six same = absurd (five refl)
stopped job files old new notes (TooLong line) ends says four five six same = reached job files old new notes ends.0 ends.2.0 8 (Some (key_fault.TooLong line)) ends.1 ends.2.1 ends.2.2 says same
stopped job files old new notes TooMany ends says four five six same = reached job files old new notes ends.0 ends.2.0 8 (Some key_fault.TooMany) ends.1 ends.2.1 ends.2.2 says same

unread_none : (test : Bool) (end : ℕ) (n : Numbers) (w : Wrote) → IsPartBefore test end n (record { keys = []; fault = None }) w → w.new ≡ w.old
unread_none true end n w part = part.0
unread_none false end n w part = part.1.out ∙ ap (λ (keys : List (ℕ × List ℕ)). then_bytes w.old (text_of (number_replies n.number end) keys ++ [])) (take-nil part.0) ∙ sym (then_nothing w.old)

-- a job over a keys file that isn't there
unread : (job : AskJob) (files : Files) (s : Sharded) (file : Option (List ℕ)) (w : Wrote) → shards_of files job.manifest ≡ Some (Ok s) → file_at files job.keys ≡ file → IsPartBefore job.test job.end (numbers_of s) (lines_there job file) w → outcome_of job files ≡ None → w.new ≡ w.old
unread job files s None w loaded is part none = unread_none job.test job.end (numbers_of s) w part
unread job files s (Some bytes) w loaded is part none = absurd (none_some (sym none ∙ keys_outcome job files s bytes loaded is))

load_lacks : (job : AskJob) (files : Files) (old new : Outside) (notes : List ℕ) (fault : ShardsFault) → EndsJob job files (wrote old.out.written new.out.written notes) (Err (Load fault)) → new.disk.files ≡ old.disk.files → outcome_of job files ≡ None → LacksFile old new (load_status fault)
load_lacks job files old new notes shards_fault.Memory ends same none = record { status_is = inr refl; files_are = same; out = ends.1.0 }
load_lacks job files old new notes shards_fault.NoManifest ends same none = record { status_is = inl refl; files_are = same; out = ends.1.0 }
load_lacks job files old new notes (shards_fault.BadManifest fault) ends same none = absurd (none_some (sym none ∙ load_outcome job files (shards_fault.BadManifest fault) ends.0))
load_lacks job files old new notes (shards_fault.NoFunction path) ends same none = record { status_is = inl refl; files_are = same; out = ends.1.0 }
load_lacks job files old new notes (shards_fault.BadFunction path fault) ends same none = absurd (none_some (sym none ∙ load_outcome job files (shards_fault.BadFunction path fault) ends.0))
load_lacks job files old new notes (shards_fault.Another path) ends same none = absurd (none_some (sym none ∙ load_outcome job files (shards_fault.Another path) ends.0))

-- a job that stopped over files by which there is no outcome
pub lacking : (job : AskJob) (files : Files) (old new : Outside) (notes : List ℕ) (stop : AskStop) → EndsJob job files (wrote old.out.written new.out.written notes) (Err stop) → new.disk.files ≡ old.disk.files → outcome_of job files ≡ None → LacksFile old new (stop_status stop)
lacking job files old new notes Memory ends same none = record { status_is = inr refl; files_are = same; out = ends.0 }
lacking job files old new notes (Load fault) ends same none = load_lacks job files old new notes fault ends same none
lacking job files old new notes Read ends same none = record { status_is = inl refl; files_are = same; out = unread job files ends.0 (file_at files job.keys) (wrote old.out.written new.out.written notes) ends.1 refl ends.2 none }
lacking job files old new notes Write ends same none = absurd (none_some (sym none ∙ keys_outcome job files ends.0 ends.2.0 ends.1 ends.2.1))
lacking job files old new notes (TooLong line) ends same none = absurd (none_some (sym none ∙ keys_outcome job files ends.0 ends.2.0 ends.1 ends.2.1))
lacking job files old new notes TooMany ends same none = absurd (none_some (sym none ∙ keys_outcome job files ends.0 ends.2.0 ends.1 ends.2.1))

-- one that a fault cut short, or for which memory ran out
load_cut : (job : AskJob) (files : Files) (old new : Outside) (notes : List ℕ) (fault : ShardsFault) → EndsJob job files (wrote old.out.written new.out.written notes) (Err (Load fault)) → Says old.err new.err (notes ++ load_message job.manifest fault)
    → (load_status fault ≡ 4) ⊎ (load_status fault ≡ 5) ⊎ (load_status fault ≡ 6) → IsCutShort job old new files (load_status fault)
load_cut job files old new notes shards_fault.Memory ends says either = record { notes = notes; text = _; says = says; read = λ e. absurd (omega (arith, e)); write = λ e. absurd (omega (arith, e)); memory = λ e. (ends.1, refl) }
load_cut job files old new notes shards_fault.NoManifest ends says either = record { notes = notes; text = _; says = says; read = λ e. inl (ends.1, (shards_fault.NoManifest, refl, ends.0, refl)); write = λ e. absurd (omega (arith, e)); memory = λ e. absurd (omega (arith, e)) }
load_cut job files old new notes (shards_fault.BadManifest fault) ends says either = absurd (omega (arith, either))
load_cut job files old new notes (shards_fault.NoFunction path) ends says either = record { notes = notes; text = _; says = says; read = λ e. inl (ends.1, (shards_fault.NoFunction path, refl, ends.0, refl)); write = λ e. absurd (omega (arith, e)); memory = λ e. absurd (omega (arith, e)) }
load_cut job files old new notes (shards_fault.BadFunction path fault) ends says either = absurd (omega (arith, either))
load_cut job files old new notes (shards_fault.Another path) ends says either = absurd (omega (arith, either))

pub cut_short : (job : AskJob) (files : Files) (old new : Outside) (notes : List ℕ) (stop : AskStop) → EndsJob job files (wrote old.out.written new.out.written notes) (Err stop) → Says old.err new.err (notes ++ stop_message job stop)
    → (stop_status stop ≡ 4) ⊎ (stop_status stop ≡ 5) ⊎ (stop_status stop ≡ 6) → IsCutShort job old new files (stop_status stop)
cut_short job files old new notes Memory ends says either = record { notes = notes; text = _; says = says; read = λ e. absurd (omega (arith, e)); write = λ e. absurd (omega (arith, e)); memory = λ e. (ends, refl) }
cut_short job files old new notes (Load fault) ends says either = load_cut job files old new notes fault ends says either
cut_short job files old new notes Read ends says either = record { notes = notes; text = _; says = says; read = λ e. inr (ends.0, ends.1, ends.2, refl); write = λ e. absurd (omega (arith, e)); memory = λ e. absurd (omega (arith, e)) }
cut_short job files old new notes Write ends says either = record { notes = notes; text = _; says = says; read = λ e. absurd (omega (arith, e)); write = λ e. (ends.0, ends.2.0, record { loaded = ends.1; there = ends.2.1 }, ends.2.2, refl); memory = λ e. absurd (omega (arith, e)) }
cut_short job files old new notes (TooLong line) ends says either = absurd (omega (arith, either))
cut_short job files old new notes TooMany ends says either = absurd (omega (arith, either))

-- what was noted is said, and nothing after it
pub says_more : {f : Bool} {a b : SinkState} {text : List ℕ} → HasNoted f a b text → Says a b (text ++ [])
says_more {a = a} {b = b} {text = text} noted = subst (λ (t : List ℕ). Says a b t) (sym (append-nil text)) (says_all noted)
