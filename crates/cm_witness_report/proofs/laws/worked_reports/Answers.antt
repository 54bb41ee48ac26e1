use Rattle.std.proofs.Common.{refl}
use Rattle.std.specs.Fmt.{digits}
use Rattle.cm_witness_report.specs.Fields.{field_at}
use Rattle.cm_witness_report.specs.Parts.{bucket_head_at, edge_at, next_edge, next_pair, overfull_head_at, pair_at, plain_head_at, third_at}
use Rattle.cm_witness_report.specs.Reading.{edges_from, pairs_from, report_from, rest_from}
use Rattle.cm_witness_report.proofs.laws.worked_reports.Goals as goal

pub returns : goal.returns
unfolding digits field_at bucket_head_at edge_at next_edge next_pair overfull_head_at pair_at plain_head_at third_at edges_from pairs_from report_from rest_from
returns c = record { pair = refl; no_pair = refl; gap = refl; overfull = refl; empty = refl; zero = refl; short = refl; unended = refl; itself = refl }
