use Rattle.std.proofs.Common.{◌≡◌, ◌∙◌, length, ap, arith}
use Rattle.std.proofs.lemmas.Result.{IfOk-weaker}
use Rattle.cm_spec.specs.Rounds.{level_of}
use Rattle.cm_peel.proofs.Ending.{all_levels, length-map_numbers}
use Rattle.cm_peel.proofs.peeled.peel.Goals as goal

pub returns-clause-levels : goal.returns-clause-levels
returns-clause-levels g c =
    let many : length c.in_ok-levels.levels.items ≡ length c.args.edges.now.edges = omega (arith, c.in_ok-levels.ensures.len, c.in_ok-levels.levels.ok.0, c.len.ensures.count) in
    IfOk-weaker c.peel_noting.result _ _ (λ p seen. all_levels c.args.edges.now.edges p.levels (seen.0 ∙ many) (λ e h. seen.1 e (omega (arith, seen.0)))) c.peel_noting.ensures.levels

pub returns-clause-long : goal.returns-clause-long
returns-clause-long g c = IfOk-weaker c.peel_noting.result _ _ (λ p is. ap length is ∙ length-map_numbers (level_of c.args.edges.now.edges) 0 (length c.args.edges.now.edges)) (returns-clause-levels g c)
