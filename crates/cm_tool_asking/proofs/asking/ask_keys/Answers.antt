use Rattle.std.proofs.Common.{[], ◌∙◌, ℕ, List, Option, Err, refl, ap}
use Rattle.std.specs.Option.{option_map}
use Rattle.cm_io.specs.NotingLaws.{noted_nothing}
use Rattle.cm_tool_asking.specs.Asking.{asking, keys_of}
use Rattle.cm_tool_asking.specs.Leaves.{wrote}
use Rattle.cm_tool_asking.proofs.Steps.{asked_none, asked_until, kept_unasked, pass_cause}
use Rattle.cm_tool_asking.proofs.asking.ask_keys.Goals as goal

pub returns-in-Err-Memory-clause-says : goal.returns-in-Err-Memory-clause-says
returns-in-Err-Memory-clause-says g c = ([], noted_nothing _ _)

pub returns-in-Err-Memory-clause-told : goal.returns-in-Err-Memory-clause-told
returns-in-Err-Memory-clause-told g c = λ files is. ([], noted_nothing _ _, (refl, refl))

pub returns-in-Err-Failed-clause-says : goal.returns-in-Err-Failed-clause-says
returns-in-Err-Failed-clause-says g c = ([], noted_nothing _ _)

pub returns-in-Err-Failed-clause-told : goal.returns-in-Err-Failed-clause-told
returns-in-Err-Failed-clause-told g c = λ files is. ([], noted_nothing _ _, asked_none (asking c.args.files.now g.A.Asked.meaning g.A.Fault.Explained.message) c.args.loaded.now files _)

pub returns-in-Ok-asked-clause-cause : goal.returns-in-Ok-asked-clause-cause
returns-in-Ok-asked-clause-cause g c =
    let cause = c.in-Ok-asked.ensures.cause in
    (c.shut.ensures.cause.none (c.into_source.ensures.faults ∙ cause.0 ∙ c.new-pass.ensures.faults ∙ c.in-Ok.ensures.fresh) ∙ c.in-Ok.ensures.cause, cause.1)

pub returns-in-Err-clause-cause : goal.returns-in-Err-clause-cause
returns-in-Err-clause-cause g c =
    let back = rw c.into_source.ensures.faults at c.shut.ensures.cause in
    let fresh = c.new-pass.ensures.faults ∙ c.in-Ok.ensures.fresh in
    rw c.stop_of_query.ensures.stop (pass_cause _ c.in-Err.fault _ _ _ _ _ _ _ c.in-Err.ensures.cause fresh back c.in-Ok.ensures.cause)

pub returns-in-Err-clause-out : goal.returns-in-Err-clause-out
returns-in-Err-clause-out g c = rw c.stop_of_query.ensures.stop (kept_unasked _ c.in-Err.fault _ _ (λ is. c.answer-asked.ensures.memory (c.in-Err.is ∙ ap Err is)))

pub returns-in-Ok-asked-clause-told : goal.returns-in-Ok-asked-clause-told
returns-in-Ok-asked-clause-told g c = λ files is.
    let a = asking c.args.files.now g.A.Asked.meaning g.A.Fault.Explained.message in
    let opened = c.in-Ok.ensures.reader files is in
    let told = c.new-pass.ensures.told ∙ ap (λ (known : Option (List ℕ)). option_map (keys_of a) known) opened.tells in
    let ends = c.in-Ok-asked.ensures.ends (keys_of a opened.bytes) told in
    (ends.0, ends.1, record { bytes = opened.bytes; there = opened.there; all = ends.2.0; complete_is = ends.2.1 })

pub returns-in-Err-clause-told : goal.returns-in-Err-clause-told
returns-in-Err-clause-told g c = λ files is.
    let a = asking c.args.files.now g.A.Asked.meaning g.A.Fault.Explained.message in
    let opened = c.in-Ok.ensures.reader files is in
    let told = c.new-pass.ensures.told ∙ ap (λ (known : Option (List ℕ)). option_map (keys_of a) known) opened.tells in
    let ends = c.in-Err.ensures.ends (keys_of a opened.bytes) told in
    (ends.0, ends.1, rw c.stop_of_query.ensures.stop (asked_until a c.args.loaded.now files opened.bytes (wrote _ _ ends.0) c.in-Err.fault opened.there ends.2))
