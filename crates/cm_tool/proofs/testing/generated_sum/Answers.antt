use Rattle.cm_tool.specs.Tested.{generated}
use Rattle.cm_tool.proofs.Tests.{made_by, no_fault}
use Rattle.cm_tool.proofs.testing.generated_sum.Goals as goal

pub unreachable-requires : goal.unreachable-requires
unreachable-requires c =
    let n = c.args.n in
    let made = made_by n (c.lines.ensures n c.requires.few) in
    no_fault n _ c.in-Err.field-0 _ _ made c.generated_pass-keys.ensures.faults c.into_source-text.ensures.faults c.in-Err.ensures.cause (c.in-Err.ensures.fault (generated n) c.generated_pass-keys.ensures.told)
