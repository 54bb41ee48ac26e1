use Rattle.std.proofs.Common.{arith, rules, ◌≡◌, subst}
use Rattle.cm_tool_builds.specs.Spills.{UnlessSpilled}
use Rattle.cm_tool_builds.specs.declared.plan.Plan.{Plan}
use Rattle.cm_tool_cells.specs.Seeds.{seeds_of}
use Rattle.cm_tool.specs.Tested as tested
use Rattle.cm_tool.proofs.Tests.{fails_test, fault_from, made_by, result_from}
use Rattle.cm_tool.proofs.testing.build_generated.Goals as goal

pub returns-in-Ok-clause-made : goal.returns-in-Ok-clause-made
returns-in-Ok-clause-made g c = λ files is.
    let job = c.args.job.now in
    let tried : c.as_slice.result.now ≡ seeds_of job.seed job.count = search rules in
    result_from job c.args.algorithm c.plan_by.result c.as_slice.result.now c.in-Ok.function c.plan_by.ensures.plan tried (c.in-Ok.ensures.made files is (tested.generated job.keys) c.generated_pass-keys.ensures.told)

pub returns-in-Err-clause-fault : goal.returns-in-Err-clause-fault
returns-in-Err-clause-fault g c = λ files is.
    let job = c.args.job.now in
    let tried : c.as_slice.result.now ≡ seeds_of job.seed job.count = search rules in
    let made = made_by job.keys (c.lines.ensures job.keys (omega (arith, c.requires.job.keys.1))) in
    let fails = fault_from job c.args.algorithm c.plan_by.result c.as_slice.result.now c.in-Err.fault c.plan_by.ensures.plan tried (c.in-Err.ensures.fault files is (tested.generated job.keys) c.generated_pass-keys.ensures.told) in
    fails_test job c.args.algorithm c.in-Err.fault c.generated_pass-keys.result.faults c.func_of-built.new.keys.faults (g.D.Disk.state c.args.disk.now).write_faults (g.D.Disk.state c.func_of-built.new.disk).write_faults made c.requires.job.keys.0
    c.generated_pass-keys.ensures.faults c.into_source-text.ensures.faults c.in-Err.ensures.cause fails

pub returns-in-Ok-clause-spilled : goal.returns-in-Ok-clause-spilled
returns-in-Ok-clause-spilled g c = λ files is. c.in-Ok.ensures.spilled files is (tested.generated c.args.job.now.keys) c.generated_pass-keys.ensures.told

pub returns-in-Ok-clause-unspilled : goal.returns-in-Ok-clause-unspilled
returns-in-Ok-clause-unspilled g c = subst (λ (p : Plan). UnlessSpilled p.algorithm ((g.D.Disk.state c.func_of-built.new.disk).spilled ≡ (g.D.Disk.state c.args.disk.now).spilled)) c.plan_by.ensures.plan c.in-Ok.ensures.unspilled

pub returns-in-Err-clause-unspilled : goal.returns-in-Err-clause-unspilled
returns-in-Err-clause-unspilled g c = subst (λ (p : Plan). UnlessSpilled p.algorithm ((g.D.Disk.state c.func_of-built.new.disk).spilled ≡ (g.D.Disk.state c.args.disk.now).spilled)) c.plan_by.ensures.plan c.in-Err.ensures.unspilled
