use Rattle.std.proofs.Common.{refl}
use Rattle.cm_witness_report.specs.Parts.{next_pair}
use Rattle.cm_witness_report.proofs.LoopLemmas.{pair_valid, taken}
use Rattle.cm_witness_report.proofs.WindowLemmas.{pair_good_at}
use Rattle.cm_witness_report.proofs.steps.read_pair.Goals as goal

pub returns-clause-valid : goal.returns-clause-valid
returns-clause-valid g c = pair_valid c.args.last c.line-line.result.now c.next_pair-found.result c.next_pair-found.ensures

pub returns-clause-takes : goal.returns-clause-takes
returns-clause-takes g c = λ x is. taken (next_pair c.args.last) (pair_good_at c.args.last) _ _ x _ _ _ _ _ _ _ _ _ is c.in_ok-fill.ensures.told c.in_ok-fill.ensures.left c.in_ok-fill.ensures.ended c.in_ok-fill.ensures.enough c.line-line.ensures.line refl c.skip.ensures.rest c.next_pair-found.ensures
