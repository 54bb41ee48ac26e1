use Rattle.std.proofs.Common.{rules}
use Rattle.cm_witness_report.specs.Fields.{field_at}
use Rattle.cm_witness_report.specs.Parts.{bucket_head_at}
use Rattle.cm_witness_report.proofs.HeadLemmas.{bucket_found}
use Rattle.cm_witness_report.proofs.parts.bucket_head.Goals as goal

pub returns : goal.returns
unfolding bucket_head_at field_at
returns c = search (rules, bucket_found)
