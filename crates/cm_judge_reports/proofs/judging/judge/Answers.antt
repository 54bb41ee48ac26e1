use Rattle.std.proofs.Common.{◌∙◌, arith, sym}
use Rattle.cm_algo_seeds.specs.OneSeedLaws.{no_keys}
use Rattle.cm_judge_reports.proofs.judging.judge.Goals as goal

pub returns-then-m-eq0-clause-fault : goal.returns-then-m-eq0-clause-fault
returns-then-m-eq0-clause-fault g c = λ told is.
    let all = c.in_ok-m.ensures.all told is in
    (no_keys told.keys (all.0 ∙ c.if-m-eq0.true), all.1)

pub verdict_on-requires-clause-counted : goal.verdict_on-requires-clause-counted
verdict_on-requires-clause-counted g c = λ told is.
    let all = c.in_ok-m.ensures.all told (sym c.count_all.ensures.told ∙ is) in
    record { many = all.0; whole = all.1 }

pub returns-clause-some : goal.returns-clause-some
returns-clause-some g c = λ told is.
    let all = c.in_ok-m.ensures.all told is in
    (all.1, omega (arith, all.0, c.if-m-eq0.false))
