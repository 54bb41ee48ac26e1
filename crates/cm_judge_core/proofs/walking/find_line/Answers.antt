use Rattle.std.proofs.Common.{arith}
use Rattle.cm_judge_core.proofs.Passing.{line_nowhere, line_there, skipped}
use Rattle.cm_judge_core.proofs.walking.find_line.Goals as goal

pub returns-then-place-edges-clause-found : goal.returns-then-place-edges-clause-found
returns-then-place-edges-clause-found c =
    line_there c.args.edges.now c.skip_below-place.result c.args.line _ c.requires.edges (skipped _ _ _ _ c.requires.from c.skip_below-place.ensures.below) c.if-place-edges.true c.skip_below-place.ensures.above

pub returns-else-place-edges-clause-found : goal.returns-else-place-edges-clause-found
returns-else-place-edges-clause-found c =
    line_nowhere c.args.edges.now c.skip_below-place.result c.args.line c.requires.edges (skipped _ _ _ _ c.requires.from c.skip_below-place.ensures.below) (omega (arith, c.if-place-edges.false))
