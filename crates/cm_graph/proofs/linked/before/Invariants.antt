use Rattle.std.proofs.Common.{◌≡◌, ◌-◌, ◌<◌, suc, length}
use Rattle.std.specs.List.{All}
use Rattle.cm_graph.specs.Chained.{chain_of, chain_from, before_in}
use Rattle.cm_graph.proofs.linked.before.Given as goal

abbrev pub invariant-loop : goal.invariant-loop
invariant-loop l = record {
  within : All (λ q. q < length l.next) (chain_of l.next l.at (suc (l.end - l.counter)));
  before : before_in l.place (chain_of l.next l.at (suc (l.end - l.counter))) ≡ before_in l.place (chain_from l.fn.next l.fn.chain);
}
