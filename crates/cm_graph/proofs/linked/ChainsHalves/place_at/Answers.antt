use Rattle.cm_graph.proofs.Chaining.{lone_first}
use Rattle.cm_graph.proofs.linked.ChainsHalves.place_at.Goals as goal

pub returns-clause-place : goal.returns-clause-place
returns-clause-place c free = (lone_first c.args.self.now c.self.inside.chains.items c.self.inside.next.items c.self.inside.slots.each c.args.v c.index.result.now c.self.view_is c.self.invariant c.requires c.index.ensures free).0

pub returns-clause-edge : goal.returns-clause-edge
returns-clause-edge c free = (lone_first c.args.self.now c.self.inside.chains.items c.self.inside.next.items c.self.inside.slots.each c.args.v c.index.result.now c.self.view_is c.self.invariant c.requires c.index.ensures free).1
