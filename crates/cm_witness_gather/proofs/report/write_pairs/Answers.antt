use Rattle.std.proofs.Common.{rules}
use Rattle.cm_witness_gather.specs.Reports.{pair_line}
use Rattle.cm_witness_gather.proofs.LineLemmas.{line_failed, line_written}
use Rattle.cm_witness_gather.proofs.report.write_pairs.Goals as goal

pub returns-in_err-write_pair-clause-lines : goal.returns-in_err-write_pair-clause-lines
returns-in_err-write_pair-clause-lines g c = line_failed pair_line _ _ _ _ _ _ _ c.loop-pair-test.true c.from_residual.ensures.0 c.loop-pair.invariant.lines c.in_err-write_pair.ensures.line

pub loop-pair-preserved : goal.loop-pair-preserved
loop-pair-preserved g c = record {
  lines = line_written pair_line _ _ _ _ _ _ c.loop-pair-test.true c.loop-pair.invariant.lines c.in_ok-write_pair.ensures.line;
  quiet = search rules;
}
