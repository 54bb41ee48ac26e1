use Rattle.cm_bdz.specs.Choices.{AreChosen}
use Rattle.cm_bdz.proofs.choice.chosen_by_all.Given as goal

-- the vertices of the places before are chosen
abbrev pub invariant-loop-i : goal.invariant-loop-i
invariant-loop-i g l = AreChosen (g.C.Lookup.cells l.cells) l.places l.i l.vertices
