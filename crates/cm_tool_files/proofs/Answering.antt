-- From how a query of a pass stopped to what was written of its keys.
use Rattle.std.proofs.Common.{◌≡◌, ◌∙◌, ℕ, ◌-◌, List, length, take, Option, Err, refl, ap, sym, arith, append-nil}
use Rattle.std.proofs.lemmas.List.{take_all}
use Rattle.cm_io.specs.Passes.{Told}
use Rattle.cm_io.specs.Writing.{then_bytes}
use Rattle.cm_io.specs.declared.key_pass.KeyFault.TheVariants as key_fault
use Rattle.cm_query.specs.Texts.{notes_of, text_of}
use Rattle.cm_query_batch.specs.Stops.{StopsAt, TextAfter, noted_keys}
use Rattle.cm_query_batch.specs.declared.fault.QueryFault.{QueryFault}
use Rattle.cm_query_batch.specs.declared.fault.QueryFault.TheVariants as query_fault
use Rattle.cm_tool_asking.specs.Leaves.{EndsPass, wrote}
use Rattle.cm_tool_files.specs.Asked.{replies_by}

take_keys : (keys : List (ℕ × List ℕ)) (given : ℕ) → given ≡ length keys → take given keys ≡ keys
take_keys keys given all = take_all given keys (omega (arith, all))

-- the keys that were answered until a refusal
pub answered_until : (f : List ℕ → Option ℕ) (end : ℕ) (told : Told) (old new : Option (List ℕ)) (given : ℕ) (fault : QueryFault) → StopsAt told given fault → TextAfter (text_of end f) told.keys given old new fault
    → EndsPass (replies_by f end) told (wrote old new (notes_of f (noted_keys told.keys given fault))) (Err fault)
answered_until f end told old new given query_fault.Memory stops text = (text, refl)
answered_until f end told old new given (query_fault.Key key_fault.Read) stops text = (given, record { out = text ∙ ap (then_bytes old) (sym (append-nil _)); notes_are = refl })
answered_until f end told old new given (query_fault.Key (key_fault.TooLong line)) stops text =
    let all = take_keys told.keys given stops.all in
    record { fault_is = stops.fault_is; out = text ∙ ap (λ (ks : List (ℕ × List ℕ)). then_bytes old (text_of end f ks)) all; notes_are = ap (notes_of f) all }
answered_until f end told old new given (query_fault.Key key_fault.TooMany) stops text =
    let all = take_keys told.keys given stops.all in
    record { fault_is = stops.fault_is; out = text ∙ ap (λ (ks : List (ℕ × List ℕ)). then_bytes old (text_of end f ks)) all; notes_are = ap (notes_of f) all }
answered_until f end told old new given query_fault.Write stops text = (given - 1, text.0, record { out = text.1; notes_are = refl })
