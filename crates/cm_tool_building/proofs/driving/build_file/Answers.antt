use Rattle.std.proofs.Common.{◌∙◌, None, refl}
use Rattle.cm_tool_building.specs.Building.{building}
use Rattle.cm_tool_building.proofs.Stops.{leaves_created, leaves_refused}
use Rattle.cm_tool_building.proofs.driving.build_file.Goals as goal

pub returns-in-Err-clause-leaves : goal.returns-in-Err-clause-leaves
returns-in-Err-clause-leaves g c = leaves_refused (building c.args.files.now (g.B.Builder.meaning c.args.builder.now) g.B.Made.Saved.bytes) _ _ _ _ c.in-Err.stop c.make_of.ensures.files c.in-Err.ensures.refused

pub returns-in-Ok-store_file-clause-leaves : goal.returns-in-Ok-store_file-clause-leaves
returns-in-Ok-store_file-clause-leaves g c = (rw c.make_of.ensures.files at c.in-Ok-store_file.ensures.files, c.in-Ok.ensures.made)

pub returns-clause-leaves : goal.returns-clause-leaves
returns-clause-leaves g c =
    let stored = rw c.in-Err-Failed.field-0-is at c.in-Err-Failed.ensures.files in
    (g.B.Made.Saved.bytes c.in-Ok.made, rw c.make_of.ensures.files at stored, λ files is. (c.in-Ok.made, refl, c.in-Ok.ensures.made files is))

pub returns-in-Err-Memory-clause-leaves : goal.returns-in-Err-Memory-clause-leaves
returns-in-Err-Memory-clause-leaves g c =
    let stored = rw c.in-Err-Memory.field-0-is at c.in-Err-Memory.ensures.files in
    leaves_created (building c.args.files.now (g.B.Builder.meaning c.args.builder.now) g.B.Made.Saved.bytes) _ _ None None c.in-Ok.made (rw c.make_of.ensures.files at stored) c.in-Ok.ensures.made

pub returns-in-Ok-store_file-clause-makes : goal.returns-in-Ok-store_file-clause-makes
returns-in-Ok-store_file-clause-makes g c = λ files is. rw c.store_file.ensures.spilled (c.in-Ok.ensures.makes files is)

pub returns-in-Err-clause-cause : goal.returns-in-Err-clause-cause
returns-in-Err-clause-cause g c = c.in-Err.ensures.cause

pub returns-in-Ok-store_file-clause-cause : goal.returns-in-Ok-store_file-clause-cause
returns-in-Ok-store_file-clause-cause g c = (c.store_file.ensures.read_faults ∙ c.in-Ok.ensures.cause.0, c.in-Ok-store_file.ensures.cause ∙ c.in-Ok.ensures.cause.1)

pub returns-in-Err-Memory-clause-cause : goal.returns-in-Err-Memory-clause-cause
returns-in-Err-Memory-clause-cause g c =
    let stored = rw c.in-Err-Memory.field-0-is at c.in-Err-Memory.ensures.cause in
    (c.store_file.ensures.read_faults ∙ c.in-Ok.ensures.cause.0, stored ∙ c.in-Ok.ensures.cause.1)

pub returns-clause-cause : goal.returns-clause-cause
returns-clause-cause g c =
    let failed = rw c.in-Err-Failed.field-0-is at c.in-Err-Failed.ensures.cause in
    let stored = rw c.in-Ok.ensures.cause.1 at failed in
    (c.store_file.ensures.read_faults ∙ c.in-Ok.ensures.cause.0, stored.0, stored.1)
