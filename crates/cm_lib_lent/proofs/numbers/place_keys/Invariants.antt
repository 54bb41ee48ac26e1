use Rattle.std.proofs.Common.{◌+◌, ◌*◌}
use Rattle.cm_lib_lent.specs.Numbers.{ArePlaces}
use Rattle.cm_lib_lent.proofs.numbers.place_keys.Given as goal

-- the keys of the fours before have their places
abbrev pub invariant-loop-g : goal.invariant-loop-g
invariant-loop-g g l = ArePlaces (g.A.Answers.place_of l.function) l.keys l.from (l.from + 4 * l.g) l.places.items

-- the keys before have their places
abbrev pub invariant-loop-i : goal.invariant-loop-i
invariant-loop-i g l = ArePlaces (g.A.Answers.place_of l.function) l.keys l.from l.i l.places.items
