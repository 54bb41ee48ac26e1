use Rattle.std.proofs.Common.{◌≤◌, Bool, true, false, eqb, refl, ◌∙◌, arith}
use Rattle.std.proofs.Math.ListN.{length-set}
use mir.Val.{bool_byte}
use Rattle.cm_graph.proofs.Lone.{listed_more}
use Rattle.cm_graph.proofs.halves.list_from.Goals as goal

byte_most : (b : Bool) → bool_byte b ≤ 1
byte_most true = omega arith
byte_most false = omega arith

pub loop-i-preserved : goal.loop-i-preserved
loop-i-preserved g c = record {
  end = refl;
  long = length-set _ _ _ ∙ c.loop-i.invariant.long;
  few = omega (arith, byte_most (eqb c.degree_at.result 1), c.loop-i.invariant.few);
  places = listed_more (g.S.Halves.kept c.args.store.now) c.args.first c.loop-i.i c.loop-i.count c.place_at.result c.degree_at.result c.loop-i.places (omega (arith, c.loop-i.invariant.few, c.loop-i.invariant.long, c.loop-i-test.true)) c.degree_at.ensures c.place_at.ensures.place c.loop-i.invariant.places;
  steps = omega (arith, c.tick.ensures, c.loop-i.invariant.steps);
}
