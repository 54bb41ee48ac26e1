use Rattle.std.proofs.Common.{◌≢◌, ◌∙◌, sym, refl, [], arith, below_more, get_or-set_other}
use Rattle.std.proofs.lemmas.Option.{get_or_from_slice_get}
use Rattle.std.proofs.lemmas.Grind.{get_or-set_at}
use Rattle.std.proofs.lemmas.List.{get_or_default}
use Rattle.std.proofs.Math.ListN.{length-set}
use Rattle.cm_spec.specs.Graph.{ends_at}
use Rattle.cm_graph_edges.proofs.Filled.{filled_more}
use Rattle.cm_graph_edges.proofs.edges.Edges.gather.Goals as goal

pub loop-i-preserved : goal.loop-i-preserved
loop-i-preserved g c = record {
  long = length-set _ _ _ ∙ c.loop-i.invariant.long;
  ends = filled_more (ends_at c.args.self.now.edges) c.args.chunk.now c.loop-i.ends c.loop-i.i 0 c.ends.result c.loop-i-test.true c.loop-i.invariant.long (sym (get_or_from_slice_get c.args.self.now.edges _ c.ends.result [] c.ends.ensures.ends)) c.loop-i.invariant.ends;
  edges = below_more _ _ (λ k low. let ne : k ≢ c.loop-i.i = omega arith in rw get_or-set_other (c.loop-i.invariant.edges k low))
      (rw (get_or-set_at c.loop-i.ends c.loop-i.i c.loop-i.i c.ends.result [] refl (omega (arith, c.loop-i.invariant.long))) c.ends.ensures.edge);
}

pub returns-clause-edges : goal.returns-clause-edges
returns-clause-edges g c k d h = rw (get_or_default c.loop-i.ends k d [] h) (c.loop-i.invariant.edges k (omega (arith, c.loop-i.invariant.long)))
