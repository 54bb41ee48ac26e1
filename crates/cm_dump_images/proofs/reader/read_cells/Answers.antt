use Rattle.std.proofs.Common.{ℕ, subst, sym, Err}
use Rattle.cm_dump_items.specs.Reading.{HasLoadCause}
use Rattle.cm_dump_images.proofs.reader.read_cells.Goals as goal

pub returns-in-Ok-cells_from-clause-at : goal.returns-in-Ok-cells_from-clause-at
returns-in-Ok-cells_from-clause-at g c = λ x is.
    let at = c.in-Ok.ensures.at x is in (rw c.image_len-len.ensures at at.0, rw c.image_len-len.ensures at at.1)

pub returns-in-Ok-cells_from-clause-exact : goal.returns-in-Ok-cells_from-clause-exact
returns-in-Ok-cells_from-clause-exact g c = λ x is. c.in-Ok-cells_from.ensures.exact x (rw c.image_len-len.ensures at (c.in-Ok.ensures.exact x is))

pub returns-in-Err-cells_from-clause-exact : goal.returns-in-Err-cells_from-clause-exact
returns-in-Err-cells_from-clause-exact g c = λ x is. c.in-Err-cells_from.ensures.exact x (rw c.image_len-len.ensures at (c.in-Ok.ensures.exact x is))

pub returns-in-Err-cells_from-clause-cause : goal.returns-in-Err-cells_from-clause-cause
returns-in-Err-cells_from-clause-cause g c =
    let faults = g.S.Source.faults in
    let before : ℕ = faults c.args.source.now in
    subst (λ (now : ℕ). HasLoadCause {T = g.row.C.Denot} before now (Err c.in-Err-cells_from.fault)) (sym c.in-Ok.ensures.cause) (c.in-Err-cells_from.ensures.cause before)
