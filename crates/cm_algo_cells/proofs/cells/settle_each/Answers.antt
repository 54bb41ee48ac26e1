use Rattle.std.proofs.Common.{◌≡◌, ◌∙◌, ℕ, suc, ◌-◌, ◌<◌, [], length, drop, get_or, ap, arith}
use Rattle.std.proofs.Math.ListN.{length-set}
use Rattle.std.proofs.lemmas.List.{length-map, get_or_default}
use Rattle.cm_spec.specs.Graph.{ends_at}
use Rattle.cm_spec.specs.Rounds.{pivot_of}
use Rattle.cm_algo_cells.specs.OneByOne.{one_by_one}
use Rattle.cm_algo_cells.proofs.Solving.{at_place, settle_step}
use Rattle.cm_algo_cells.proofs.cells.settle_each.Goals as goal

pub edges-preserved : goal.edges-preserved
edges-preserved g c =
    let inv = c.edges.invariant in
    let i : ℕ = c.edges.i - 1 in
    let up : c.edges.i ≡ suc i = omega (arith, c.edges-test.true) in
    let low : i < length c.args.ends.now = omega (arith, c.edges-test.true, inv.within) in
    record {
      bound = c.put.ensures.bound ∙ inv.bound;
      long = ap length c.put.ensures.cells ∙ (length-set _ _ _ ∙ inv.long);
      within = omega (arith, inv.within);
      cells = λ p chunk are.
          let long : length c.args.ends.now ≡ length chunk = ap length are.ends_are ∙ length-map chunk (ends_at p.edges) in
          settle_step p (g.C.Cells.cells c.args.table.now) (g.C.Cells.cells c.edges.table) _ chunk c.index-ends-i.result i (get_or c.args.positions.now i 0) (get_or c.args.targets.now i 0) c.args.modulus.now c.sum_others-sum.result
          (inv.cells p chunk are ∙ ap (λ k. one_by_one p (g.C.Cells.cells c.args.table.now) (drop k chunk)) up) c.put.ensures.cells c.sum_others-sum.ensures
          (c.index-ends-i.is ∙ (get_or_default c.args.ends.now i _ [] low ∙ at_place (ends_at p.edges) chunk c.args.ends.now i [] are.ends_are low))
          (at_place (pivot_of p.edges) chunk c.args.positions.now i 0 are.positions_are (omega (arith, low, c.requires.ready.positions_long)))
          (at_place p.target chunk c.args.targets.now i 0 are.targets_are (omega (arith, low, c.requires.ready.targets_long)))
          are.modulus_is (omega (arith, low, long));
    }
