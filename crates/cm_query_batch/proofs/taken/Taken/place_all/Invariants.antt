use Rattle.std.proofs.Common.{◌≡◌, ◌*◌, map, take}
use Rattle.cm_query_batch.proofs.taken.Taken.place_all.Given as goal

abbrev pub invariant-loop-i : goal.invariant-loop-i
invariant-loop-i g l = l.places.items ≡ map (λ k. g.A.Answers.place_of l.function k.1) (take (4 * l.i) l.self.keys)

abbrev pub invariant-loop-i-2 : goal.invariant-loop-i-2
invariant-loop-i-2 g l = l.places.items ≡ map (λ k. g.A.Answers.place_of l.function k.1) (take l.i l.self.keys)
