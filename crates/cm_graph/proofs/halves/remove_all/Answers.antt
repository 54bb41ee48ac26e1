use Rattle.cm_graph.proofs.Removing.{all_within}
use Rattle.cm_graph.proofs.halves.remove_all.Goals as goal

pub list_lone-requires-clause-vertices : goal.list_lone-requires-clause-vertices
list_lone-requires-clause-vertices g c = all_within _ _ c.args.halves.now c.take_each.ensures.links c.requires.vertices
