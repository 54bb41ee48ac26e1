use Rattle.std.proofs.Common.{◌∙◌, ℕ, List, Option, ap}
use Rattle.std.specs.Option.{option_map}
use Rattle.cm_tool_building.specs.Building.{building, keys_of}
use Rattle.cm_tool_building.proofs.Stops.{refused_from, stop_cause, stop_form}
use Rattle.cm_tool_building.proofs.building.make_of.Goals as goal

pub returns-in-Ok-outcome-clause-made : goal.returns-in-Ok-outcome-clause-made
returns-in-Ok-outcome-clause-made g c = λ files is.
    let b = building c.args.files.now (g.B.Builder.meaning c.args.builder.now) g.B.Made.Saved.bytes in
    let opened = c.in-Ok.ensures.reader files is in
    let told = c.new-keys.ensures.told ∙ ap (λ (known : Option (List ℕ)). option_map (keys_of b) known) opened.tells in
    record { bytes = opened.bytes; there = opened.there; is = c.in-Ok-outcome.ensures.made files (c.open.ensures.files ∙ is) (keys_of b opened.bytes) told }

pub returns-in-Ok-outcome-clause-makes : goal.returns-in-Ok-outcome-clause-makes
returns-in-Ok-outcome-clause-makes g c = λ files is.
    let b = building c.args.files.now (g.B.Builder.meaning c.args.builder.now) g.B.Made.Saved.bytes in
    let opened = c.in-Ok.ensures.reader files is in
    let told = c.new-keys.ensures.told ∙ ap (λ (known : Option (List ℕ)). option_map (keys_of b) known) opened.tells in
    let makes = c.in-Ok-outcome.ensures.makes files (c.open.ensures.files ∙ is) (keys_of b opened.bytes) told in
    record { bytes = opened.bytes; there = opened.there; makes = rw c.shut.ensures.spilled (rw c.open.ensures.spilled at makes) }

pub returns-in-Err-clause-refused : goal.returns-in-Err-clause-refused
returns-in-Err-clause-refused g c = λ files is.
    let b = building c.args.files.now (g.B.Builder.meaning c.args.builder.now) g.B.Made.Saved.bytes in
    let opened = c.in-Ok.ensures.reader files is in
    let told = c.new-keys.ensures.told ∙ ap (λ (known : Option (List ℕ)). option_map (keys_of b) known) opened.tells in
    let refuses = c.in-Err.ensures.refused files (c.open.ensures.files ∙ is) (keys_of b opened.bytes) told in
    refused_from b g.B.Report.Saved.bytes files opened.bytes c.in-Err.fault _ _ c.stop_of.result opened.there refuses c.stop_of.ensures.stops

pub returns-in-Err-clause-form : goal.returns-in-Err-clause-form
returns-in-Err-clause-form g c = stop_form (g.B.Builder.meaning c.args.builder.now).may_stop g.B.Report.Saved.bytes c.in-Err.fault _ _ c.stop_of.result c.in-Err.ensures.form c.stop_of.ensures.stops

pub returns-in-Ok-outcome-clause-cause : goal.returns-in-Ok-outcome-clause-cause
returns-in-Ok-outcome-clause-cause g c =
    let cause = c.in-Ok-outcome.ensures.cause in
    let read = c.shut.ensures.cause.none (c.into_source.ensures.faults ∙ cause.0 ∙ c.new-keys.ensures.faults ∙ c.in-Ok.ensures.fresh) in
    (read ∙ c.make-outcome.ensures.read_faults ∙ c.in-Ok.ensures.cause, c.shut.ensures.write_faults ∙ cause.1 ∙ c.open.ensures.write_faults)

pub returns-in-Err-clause-cause : goal.returns-in-Err-clause-cause
returns-in-Err-clause-cause g c =
    let back = rw c.into_source.ensures.faults at c.shut.ensures.cause in
    let fresh = c.new-keys.ensures.faults ∙ c.in-Ok.ensures.fresh in
    let read = c.make-outcome.ensures.read_faults ∙ c.in-Ok.ensures.cause in
    stop_cause g.B.Report.Saved.bytes c.in-Err.fault _ _ c.stop_of.result _ _ _ _ _ _ _ _ _ c.stop_of.ensures.stops c.in-Err.ensures.cause fresh back read c.open.ensures.write_faults c.shut.ensures.write_faults
