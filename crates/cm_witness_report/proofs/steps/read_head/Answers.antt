use Rattle.std.proofs.Common.{refl}
use Rattle.cm_witness_report.specs.Parts.{head_at}
use Rattle.cm_witness_report.proofs.LoopLemmas.{head_valid, taken}
use Rattle.cm_witness_report.proofs.WindowLemmas.{head_good_at}
use Rattle.cm_witness_report.proofs.steps.read_head.Goals as goal

pub returns-clause-valid : goal.returns-clause-valid
returns-clause-valid g c = head_valid c.line-line.result.now c.first_line-found.result c.first_line-found.ensures

pub returns-clause-takes : goal.returns-clause-takes
returns-clause-takes g c = λ x is. taken head_at head_good_at _ _ x _ _ _ _ _ _ _ _ _ is c.in_ok-fill.ensures.told c.in_ok-fill.ensures.left c.in_ok-fill.ensures.ended c.in_ok-fill.ensures.enough c.line-line.ensures.line refl c.skip.ensures.rest c.first_line-found.ensures
