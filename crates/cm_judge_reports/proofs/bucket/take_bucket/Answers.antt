use Rattle.std.proofs.Common.{◌∙◌, arith, rules}
use Rattle.cm_judge_reports.proofs.bucket.take_bucket.Goals as goal

pub returns-in-None-clause-passes : goal.returns-in-None-clause-passes
returns-in-None-clause-passes g c = record {
  told = search rules;
  cause = search rules;
  failed = tt;
  fault = λ told is.
      let gone = rw c.in-None.is at c.in_ok-take_next.ensures.ends in
      let ends = gone told (c.loop-count.invariant.same ∙ is) in
      omega (arith, ends.all, (c.requires.counted told is).many, c.loop-count.invariant.at, c.loop-count-test.true);
}
