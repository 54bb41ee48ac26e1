use Rattle.cm_judge_reports.proofs.VerdictLemmas.{fail_again}
use Rattle.cm_judge_reports.proofs.judging.graph_verdict.Goals as goal

pub returns-clause-passes : goal.returns-clause-passes
returns-clause-passes g c =
    let passes = c.core_verdict.ensures.passes in
    record {
      told = passes.told;
      cause = passes.cause;
      failed = passes.failed;
      fault = fail_again (g.P.KeyPass.told c.args.keys.now) c.args.sizes.keys c.core_verdict.result c.requires.counted passes.fault;
    }
