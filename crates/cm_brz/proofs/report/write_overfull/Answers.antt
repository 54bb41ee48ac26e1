use Rattle.std.proofs.Common.{map}
use Rattle.cm_io.specs.Writing.{joined}
use Rattle.cm_io.specs.WritingLaws.{front_of_first, writes_front, writes_then}
use Rattle.cm_witness_gather.specs.Reports.{overfull_head, pair_line}
use Rattle.cm_brz.proofs.report.write_overfull.Goals as goal

pub returns-in_err-write_head-clause-text : goal.returns-in_err-write_head-clause-text
returns-in_err-write_head-clause-text g c =
    let front = c.in_err-write_head.ensures.line in
    writes_front _ _ _ _ c.from_residual.ensures.0 (front_of_first _ _ (overfull_head c.args.seed c.args.bucket c.args.count) (joined (map pair_line c.args.equal.now)) front.0 front.1)

pub returns-clause-text : goal.returns-clause-text
returns-clause-text g c = writes_then _ _ _ (overfull_head c.args.seed c.args.bucket c.args.count) (joined (map pair_line c.args.equal.now)) _ c.in_ok-write_head.ensures.line c.write_pairs.ensures.lines
