use Rattle.std.proofs.Common.{refl}
use Rattle.cm_witness_report.specs.Parts.{next_edge}
use Rattle.cm_witness_report.proofs.LoopLemmas.{edge_valid, taken}
use Rattle.cm_witness_report.proofs.WindowLemmas.{edge_good_at}
use Rattle.cm_witness_report.proofs.steps.read_edge.Goals as goal

pub returns-clause-valid : goal.returns-clause-valid
returns-clause-valid g c = edge_valid c.args.third c.args.last c.args.left c.line-line.result.now c.next_edge-found.result c.next_edge-found.ensures

pub returns-clause-takes : goal.returns-clause-takes
returns-clause-takes g c = λ x is. taken (next_edge c.args.third c.args.last c.args.left) (edge_good_at c.args.third c.args.last c.args.left) _ _ x _ _ _ _ _ _ _ _ _ is c.in_ok-fill.ensures.told c.in_ok-fill.ensures.left c.in_ok-fill.ensures.ended c.in_ok-fill.ensures.enough c.line-line.ensures.line refl c.skip.ensures.rest c.next_edge-found.ensures
