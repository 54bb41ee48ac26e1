use Rattle.cm_graph.proofs.Shares.{lone_place}
use Rattle.cm_graph.proofs.wide.WideHalves.place_at.Goals as goal

pub returns-clause-place : goal.returns-clause-place
returns-clause-place c free = (lone_place c.args.self.now c.self.inside.vertices.items c.self.inside.slots.each c.args.v c.index.result.now c.self.view_is c.self.invariant c.requires c.index.ensures free).0

pub returns-clause-edge : goal.returns-clause-edge
returns-clause-edge c free = (lone_place c.args.self.now c.self.inside.vertices.items c.self.inside.slots.each c.args.v c.index.result.now c.self.view_is c.self.invariant c.requires c.index.ensures free).1
