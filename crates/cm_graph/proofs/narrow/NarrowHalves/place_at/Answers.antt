use Rattle.cm_graph.proofs.Words.{word_place_is}
use Rattle.cm_graph.proofs.narrow.NarrowHalves.place_at.Goals as goal

pub returns-clause-place : goal.returns-clause-place
returns-clause-place c free = (word_place_is c.args.self.now c.self.inside.words.items c.self.inside.slots.each c.args.v c.index.result.now c.self.view_is c.self.invariant.0 c.requires c.index.ensures free).0

pub returns-clause-edge : goal.returns-clause-edge
returns-clause-edge c free = (word_place_is c.args.self.now c.self.inside.words.items c.self.inside.slots.each c.args.v c.index.result.now c.self.view_is c.self.invariant.0 c.requires c.index.ensures free).1
