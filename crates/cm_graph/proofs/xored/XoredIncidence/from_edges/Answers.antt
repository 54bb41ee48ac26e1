use Rattle.std.proofs.Common.{sym, subst}
use Rattle.cm_graph_edges.specs.Graph.{Graph}
use Rattle.cm_graph.specs.Choice.{FitNarrow}
use Rattle.cm_graph.proofs.xored.XoredIncidence.from_edges.Goals as goal

pub returns-clause-narrow : goal.returns-clause-narrow
returns-clause-narrow g c fit = c.in_ok-from_edges.ensures.narrow (subst (λ (x : Graph). FitNarrow x.vertices x.edges) (sym c.edges-edges.ensures) fit)
