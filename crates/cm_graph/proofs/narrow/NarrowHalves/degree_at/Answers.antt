use Rattle.cm_graph.proofs.Words.{word_degree_is}
use Rattle.cm_graph.proofs.narrow.NarrowHalves.degree_at.Goals as goal

pub returns : goal.returns
returns c = word_degree_is c.args.self.now c.self.inside.words.items c.self.inside.slots.each c.args.v c.index.result.now c.self.view_is c.self.invariant.0 c.requires c.index.ensures
