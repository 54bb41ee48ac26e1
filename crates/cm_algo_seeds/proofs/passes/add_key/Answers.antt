use Rattle.std.proofs.Common.{arith, ◌≡◌, ℕ, List, sym, subst, ap, ◌∙◌}
use Rattle.cm_spec.specs.Graph.{IsEdge}
use Rattle.cm_spec.specs.Rule.{IsSize}
use Rattle.cm_algo_seeds.proofs.passes.add_key.Goals as goal

pub edge-requires : goal.edge-requires
edge-requires g c = (omega (arith, (g.met.S.Scheme.laws c.args.scheme.now).two_or_three.1), (subst (λ (n : ℕ). IsSize (g.S.Scheme.rule c.args.scheme.now) n) (sym c.vertices.ensures.count) c.requires.size, c.requires.divisor ∙ ap (g.S.Scheme.divisor_of c.args.scheme.now) (sym c.vertices.ensures.count)))

pub push_reserved-requires : goal.push_reserved-requires
push_reserved-requires g c =
    let r = g.S.Scheme.rule c.args.scheme.now in
    let n : ℕ = c.args.edges.now.vertices in
    let edge = (g.met.S.Scheme.laws c.args.scheme.now).ends c.args.hashed n c.requires.size in
    let is : c.edge.result ≡ (g.S.Scheme.rule c.args.scheme.now).edge c.args.hashed n = c.edge.ensures.edge ∙ ap (λ (k : ℕ). (g.S.Scheme.rule c.args.scheme.now).edge c.args.hashed k) c.vertices.ensures.count in
    (omega (arith, (g.met.S.Scheme.laws c.args.scheme.now).two_or_three.1), (omega (arith, (g.met.S.Scheme.laws c.args.scheme.now).two_or_three.1), (c.requires.room, subst (λ (xs : List ℕ). IsEdge n xs) (sym is) edge.1)))
