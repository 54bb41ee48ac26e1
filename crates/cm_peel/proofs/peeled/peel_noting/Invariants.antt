use Rattle.std.proofs.Common.{◌≡◌, suc, ◌+◌, ◌-◌, ◌*◌, ◌≤◌, length, take, vec_len}
use Rattle.cm_spec.specs.Rounds.{order_upto}
use Rattle.cm_peel.specs.AtRound.{AtRound}
use Rattle.cm_peel.specs.Waiting.{AreTables}
use Rattle.cm_peel.proofs.peeled.peel_noting.Given as goal
use Rattle.cm_spec.specs.declared.limits.TheConstants.{MAX_EDGES}

abbrev pub invariant-rounds : goal.invariant-rounds
invariant-rounds g l = record {
  state : AtRound l.edges l.rounds (g.I.Incidence.links l.incidence) l.tables.levels.items l.tables.bytes.items;
  few : l.rounds ≤ length l.edges.edges;
  room : vec_len l.order ≡ length l.edges.edges + 192;
  order_is : take l.end l.order.items ≡ order_upto l.edges.edges (suc l.rounds);
  start_is : l.start ≡ length (order_upto l.edges.edges l.rounds);
  end_is : l.end ≡ length (order_upto l.edges.edges (suc l.rounds));
  long : length l.tables.levels.items ≡ length l.fn.levels.items;
  fits : length l.edges.edges ≤ MAX_EDGES;
  tables : AreTables l.edges l.tables.counts.items l.tables.marks.items;
  steps : l.steps ≤ l.fn.steps + 4 * (g.row.K * length l.edges.edges) + 3 * (g.row.K * l.start);
}

abbrev pub decreases-rounds : goal.decreases-rounds
decreases-rounds g l = length l.edges.edges - l.start
