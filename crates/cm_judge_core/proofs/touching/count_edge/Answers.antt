use Rattle.cm_judge_core.proofs.Counting.{count_three}
use Rattle.cm_judge_core.proofs.touching.count_edge.Goals as goal

pub returns-in-Some-clause-counts : goal.returns-in-Some-clause-counts
returns-in-Some-clause-counts g c =
    let T = g.T.Cells in
    count_three (T.cells c.args.table.now) (T.cells c.count_end.new.table) (T.cells c.count_end-2.new.table) (T.cells c.count_end-in-Some.new.table) c.args.edge c.in-Some.third c.in-Some.is c.requires.edge c.count_end.ensures.cells c.count_end-2.ensures.cells c.count_end-in-Some.ensures.cells
