-- From the steps of a query to how it ends.
use Rattle.std.proofs.Common.{◌≡◌, ◌∙◌, ℕ, List, [], Option, Some, Result, Ok, Err, refl, ap, arith, Bool}
use Rattle.cm_io.specs.Causes.{Collects}
use Rattle.cm_io.specs.Files.{Files, file_at}
use Rattle.cm_io.specs.WritingLaws.{then_nothing}
use Rattle.cm_io.specs.declared.key_pass.KeyFault.TheVariants as key_fault
use Rattle.cm_query_batch.specs.Stops.{HasQueryCause}
use Rattle.cm_query_batch.specs.declared.fault.QueryFault.{QueryFault}
use Rattle.cm_query_batch.specs.declared.fault.QueryFault.TheVariants as query_fault
use Rattle.cm_tool_asking.specs.Asking.{Asking, keys_of, replies_of}
use Rattle.cm_tool_asking.specs.Leaves.{EndsKeys, EndsPass, EndsQuery, IsStopCause, KeepsOut, Wrote, question_of, question_over, stop_from_load, stop_from_query, wrote}
use Rattle.cm_tool_asking.specs.Loads.{HasLoadCause, IsLoadCause, IsSpelled, Loads, Spells}
use Rattle.cm_tool_asking.specs.declared.unloaded.Unloaded.{Unloaded}
use Rattle.cm_tool_asking.specs.declared.unloaded.Unloaded.TheVariants as unloaded
use Rattle.cm_tool_stops.specs.EndLaws.{collected}
use Rattle.cm_tool_stops.specs.declared.stop.QueryStop.{QueryStop}
use Rattle.cm_tool_stops.specs.declared.stop.QueryStop.TheVariants.{Memory, NoFunction, BadFile, Read, Write, TooLong, TooMany}

-- the cause of a load, by the count of the disk that took the reader back
pub load_cause : {L F : Type 0} (loaded : Result L (Unloaded F)) (count count_now reads opened reads_now : ℕ) → HasLoadCause count count_now loaded → count ≡ 0 → Collects count_now opened reads_now → opened ≡ reads → HasLoadCause reads reads_now loaded
load_cause (Ok x) count count_now reads opened reads_now cause fresh shut begun = shut.none (cause ∙ fresh) ∙ begun
load_cause (Err unloaded.Memory) count count_now reads opened reads_now cause fresh shut begun = shut.none (cause ∙ fresh) ∙ begun
load_cause (Err unloaded.Read) count count_now reads opened reads_now cause fresh shut begun = (omega (arith, shut.later, begun), collected count count_now reads opened reads_now cause fresh shut begun)
load_cause (Err (unloaded.Bad fault)) count count_now reads opened reads_now cause fresh shut begun = shut.none (cause ∙ fresh) ∙ begun

-- what was loaded, by the bytes of the file
pub loads_from : {L F : Type 0} (spelling : List ℕ → Result L F) (files : Files) (path bytes : List ℕ) (loaded : Result L (Unloaded F)) → file_at files path ≡ Some bytes → IsSpelled spelling bytes loaded → Loads spelling files path loaded
loads_from spelling files path bytes (Ok x) there is = (bytes, there, is)
loads_from spelling files path bytes (Err unloaded.Memory) there is = tt
loads_from spelling files path bytes (Err unloaded.Read) there is = tt
loads_from spelling files path bytes (Err (unloaded.Bad fault)) there is = (bytes, there, is)

-- the cause of a query that stopped at a failed load
pub stop_cause : {F : Type 0} (fault : Unloaded F) (reads reads_now out : ℕ) → IsLoadCause reads reads_now fault → IsStopCause reads reads_now out out (stop_from_load fault)
stop_cause unloaded.Memory reads reads_now out cause = (cause, refl)
stop_cause unloaded.Read reads reads_now out cause = (cause.0, cause.1, refl)
stop_cause (unloaded.Bad fault) reads reads_now out cause = (cause, refl)

-- and at a failed pass over the keys, by the count of the disk that took the reader back
pub pass_cause : (F : Type 0) (fault : QueryFault) (count count_now reads opened reads_now out out_now : ℕ) → HasQueryCause {T = Bool} count count_now out out_now (Err fault) → count ≡ 0 → Collects count_now opened reads_now → opened ≡ reads
    → IsStopCause {F = F} reads reads_now out out_now (stop_from_query fault)
pass_cause F query_fault.Memory count count_now reads opened reads_now out out_now cause fresh shut begun = (shut.none (cause.0 ∙ fresh) ∙ begun, cause.1)
pass_cause F (query_fault.Key key_fault.Read) count count_now reads opened reads_now out out_now cause fresh shut begun =
    (omega (arith, shut.later, begun), collected count count_now reads opened reads_now cause.0 fresh shut begun, cause.1)
pass_cause F (query_fault.Key (key_fault.TooLong line)) count count_now reads opened reads_now out out_now cause fresh shut begun = (shut.none (cause.0 ∙ fresh) ∙ begun, cause.1)
pass_cause F (query_fault.Key key_fault.TooMany) count count_now reads opened reads_now out out_now cause fresh shut begun = (shut.none (cause.0 ∙ fresh) ∙ begun, cause.1)
pass_cause F query_fault.Write count count_now reads opened reads_now out out_now cause fresh shut begun = (shut.none (cause.0 ∙ fresh) ∙ begun, cause.1, cause.2)

-- a query for which nothing was loaded
pub without : {L F : Type 0} (a : Asking L F) (files : Files) (old : Option (List ℕ)) (fault : Unloaded F) → Loads a.meaning.spelling files a.named.function (Err fault) → EndsQuery a files (wrote old old []) (Err (stop_from_load fault))
without a files old unloaded.Memory loads = (refl, refl)
without a files old unloaded.Read loads = (refl, refl)
without a files old (unloaded.Bad fault) loads = (loads, (refl, refl))

-- a query of what was loaded
pub with_loaded : {L F : Type 0} (a : Asking L F) (x : L) (files : Files) (w : Wrote) (result : Result Bool (QueryStop F)) → Spells a.meaning.spelling files a.named.function x → EndsKeys a x files w result → EndsQuery a files w result
with_loaded a x files w (Ok complete) spells ends = (x, spells, ends)
with_loaded a x files w (Err Memory) spells ends = ends
with_loaded a x files w (Err NoFunction) spells ends = absurd ends
with_loaded a x files w (Err (BadFile fault)) spells ends = absurd ends
with_loaded a x files w (Err Read) spells ends = (x, spells, ends)
with_loaded a x files w (Err Write) spells ends = (x, spells, ends)
with_loaded a x files w (Err (TooLong line)) spells ends = (x, spells, ends)
with_loaded a x files w (Err TooMany) spells ends = (x, spells, ends)

-- the keys that were asked for until a refusal
pub asked_until : {L F : Type 0} (a : Asking L F) (x : L) (files : Files) (bytes : List ℕ) (w : Wrote) (fault : QueryFault) → file_at files a.named.keys ≡ Some bytes → EndsPass (replies_of a x) (keys_of a bytes) w (Err fault)
    → EndsKeys a x files w (Err (stop_from_query fault))
asked_until a x files bytes w query_fault.Memory there ends = ends
asked_until a x files bytes w (query_fault.Key key_fault.Read) there ends =
    let here : question_of a x files ≡ question_over a x (Some bytes) = ap (question_over a x) there in
    (ends.0, rw here ends.1)
asked_until a x files bytes w (query_fault.Key (key_fault.TooLong line)) there ends = (bytes, there, ends)
asked_until a x files bytes w (query_fault.Key key_fault.TooMany) there ends = (bytes, there, ends)
asked_until a x files bytes w query_fault.Write there ends =
    let here : question_of a x files ≡ question_over a x (Some bytes) = ap (question_over a x) there in
    record { bytes = bytes; there = there; given = ends.0; rest = ends.1; part = rw here ends.2 }

-- a keys file that can't be opened
pub asked_none : {L F : Type 0} (a : Asking L F) (x : L) (files : Files) (old : Option (List ℕ)) → EndsKeys a x files (wrote old old []) (Err Read)
asked_none a x files old = (0, record { out = then_nothing old; notes_are = refl })

-- out is as it was where nothing was loaded
pub kept_unloaded : {F : Type 0} (fault : Unloaded F) (out : Option (List ℕ)) → KeepsOut out out (stop_from_load fault)
kept_unloaded unloaded.Memory out = refl
kept_unloaded unloaded.Read out = refl
kept_unloaded (unloaded.Bad fault) out = refl

-- and where memory ran out before the first key
pub kept_unasked : (F : Type 0) (fault : QueryFault) (out out_now : Option (List ℕ)) → (fault ≡ query_fault.Memory → out_now ≡ out) → KeepsOut {F = F} out out_now (stop_from_query fault)
kept_unasked F query_fault.Memory out out_now kept = kept refl
kept_unasked F (query_fault.Key key_fault.Read) out out_now kept = tt
kept_unasked F (query_fault.Key (key_fault.TooLong line)) out out_now kept = tt
kept_unasked F (query_fault.Key key_fault.TooMany) out out_now kept = tt
kept_unasked F query_fault.Write out out_now kept = tt
