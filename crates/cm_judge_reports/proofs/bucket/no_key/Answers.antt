use Rattle.std.proofs.Common.{◌≡◌, ◌<◌, List, [], ◌∷◌, Some, arith, get_or, length}
use Rattle.cm_judge_reports.proofs.Taking.{lowest_unknown}
use Rattle.cm_judge_reports.proofs.bucket.no_key.Goals as goal
use Rattle.cm_judge_verdict.specs.Rising.{RisesBy}
use Rattle.cm_judge_verdict.specs.Verdicts.{lines_unknown, lowest}
use Rattle.cm_judge_verdict.specs.declared.verdict.Reason.TheVariants.{NoKey}
use Rattle.cm_witness_gather.specs.declared.certificate.CoreEdge.{CoreEdge}

first_unknown : (es : List CoreEdge) (d : CoreEdge) → 0 < length es → RisesBy (λ e. e.line) 0 es → Some (NoKey (get_or es 0 d).line) ≡ lowest NoKey (lines_unknown [] es)
first_unknown [] d some rise = absurd (omega arith)
first_unknown (e ∷ es) d some rise = lowest_unknown e es rise

pub returns : goal.returns
returns c = record { reason = first_unknown c.args.edges.now _ c.requires.some c.requires.edges }
