use Rattle.cm_tool_cells.proofs.cells.build_by.Goals as goal

pub returns-in-Ok-clause-first : goal.returns-in-Ok-clause-first
returns-in-Ok-clause-first g c = λ told is.
    let first = c.in-Ok.ensures.first told is in
    record { no_fault = first.0; many = first.1.many; place = first.1.place; chosen = first.1.chosen; first = first.1.first; cells_are = first.1.cells_are }
