use Rattle.std.proofs.Common.{rules, ◌≡◌}
use Rattle.cm_tool.specs.Jobs.{seeds_tried}
use Rattle.cm_tool.proofs.Makes.{made_verdict, refuses_from}
use Rattle.cm_tool.proofs.building.FuncBuilderBuilder.make.Goals as goal

pub returns-in-Ok-clause-made : goal.returns-in-Ok-clause-made
returns-in-Ok-clause-made g c = λ files is told known.
    let tried : c.as_slice.result.now ≡ seeds_tried c.args.self.now.job = search rules in
    made_verdict c.args.self.now.job told c.in-Ok.func (rw (c.plan_of-plan.ensures.plan, tried) at (c.in-Ok.ensures.made files is told known))

pub returns-in-Ok-clause-makes : goal.returns-in-Ok-clause-makes
returns-in-Ok-clause-makes g c = λ files is told known.
    let tried : c.as_slice.result.now ≡ seeds_tried c.args.self.now.job = search rules in
    record {
      made = rw (c.plan_of-plan.ensures.plan, tried) at (c.in-Ok.ensures.made files is told known);
      valid = c.in-Ok.ensures.valid;
      spilled = c.in-Ok.ensures.spilled files is told known;
    }

pub returns-in-Err-clause-refused : goal.returns-in-Err-clause-refused
returns-in-Err-clause-refused g c = λ files is told known.
    let tried : c.as_slice.result.now ≡ seeds_tried c.args.self.now.job = search rules in
    let fails = rw (c.plan_of-plan.ensures.plan, tried) at (c.in-Err.ensures.fault files is told known) in
    rw c.fault_of.ensures.fault (refuses_from c.args.self.now.job told c.in-Err.fault fails)
