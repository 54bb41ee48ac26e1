use Rattle.std.proofs.Common.{subst, sym}
use Rattle.cm_judge_reports.proofs.VerdictLemmas as lemma
use Rattle.cm_judge_reports.proofs.judging.verdict_on.Goals as goal
use Rattle.cm_judge_verdict.specs.Rising.{RisesBy}
use Rattle.cm_witness_report.specs.Reading.{said_of}
use Rattle.cm_witness_report.specs.Reports.{IsReport}

pub overfull_verdict-requires-clause-equal : goal.overfull_verdict-requires-clause-equal
overfull_verdict-requires-clause-equal g c =
    let report = subst (λ r. IsReport (said_of r)) c.in-Overfull.is c.requires.report in
    subst (λ ps. RisesBy (λ p. p.again) 0 ps) (sym c.deref.ensures.value) (lemma.pairs_up _ report.pairs_are)
