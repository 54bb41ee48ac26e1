use Rattle.std.proofs.Common.{rules}
use Rattle.cm_witness_gather.specs.Reports.{edge_line}
use Rattle.cm_witness_gather.proofs.LineLemmas.{line_failed, line_written}
use Rattle.cm_witness_gather.proofs.report.write_edges.Goals as goal

pub returns-in_err-write_edge-clause-lines : goal.returns-in_err-write_edge-clause-lines
returns-in_err-write_edge-clause-lines g c = line_failed edge_line _ _ _ _ _ _ _ c.loop-edge-test.true c.from_residual.ensures.0 c.loop-edge.invariant.lines c.in_err-write_edge.ensures.line

pub loop-edge-preserved : goal.loop-edge-preserved
loop-edge-preserved g c = record {
  lines = line_written edge_line _ _ _ _ _ _ c.loop-edge-test.true c.loop-edge.invariant.lines c.in_ok-write_edge.ensures.line;
  quiet = search rules;
}
