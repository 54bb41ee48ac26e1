use Rattle.std.proofs.Common.{arith, ◌<◌, ap, subst, sym, ℕ}
use Rattle.std.proofs.lemmas.Nat.{mod_below}
use Rattle.std.specs.List.{slice_index_or}
use Rattle.cm_route.proofs.route.RouteAnswers.answer_at.Goals as goal

-- the shard of some key, which is below their number
pub returns-clause-inside : goal.returns-clause-inside
returns-clause-inside c =
    let r = c.args.self.now in
    subst (λ (x : ℕ). x < r.shards) (sym (ap (λ xs. slice_index_or xs 0 0) c.requires.place.1)) (mod_below _ r.shards (omega (arith, c.shards.ensures.shards, c.shards.ensures.some)))
