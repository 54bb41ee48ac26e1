use Rattle.std.proofs.Common.{◌≡◌, ◌∙◌, ℕ, ◌<◌, List, [], length, get_or, ap, arith, below_more}
use Rattle.std.proofs.Math.ListN.{length-set}
use Rattle.std.proofs.lemmas.List.{get_or-set_same, get_or-set_other, get_or_default}
use Rattle.cm_spec.specs.Cells.{sum_but}
use Rattle.cm_algo_cells.proofs.cells.sum_each.Goals as goal

pub loop-i-preserved : goal.loop-i-preserved
loop-i-preserved g c =
    let inv = c.loop-i.invariant in
    let cells : List ℕ = g.C.Cells.cells c.args.table.now in
    let low : c.loop-i.i < length c.args.ends.now = c.loop-i-test.true in
    let here : c.index-ends-i.result ≡ get_or c.args.ends.now c.loop-i.i [] = c.index-ends-i.is ∙ get_or_default c.args.ends.now c.loop-i.i _ [] low in
    record {
      long = length-set _ _ _ ∙ inv.long;
      sum = below_more _ _
          (λ k h. get_or-set_other c.loop-i.sums c.loop-i.i k c.sum_others.result 0 (λ s. absurd (omega (arith, s, h))) ∙ inv.sum k h)
          (get_or-set_same c.loop-i.sums c.loop-i.i c.sum_others.result 0 (omega (arith, low, inv.long, c.requires.long.1))
          ∙ (c.sum_others.ensures ∙ ap (λ (ends : List ℕ). sum_but cells (get_or ends (get_or c.args.positions.now c.loop-i.i 0) 0) ends) here));
    }
