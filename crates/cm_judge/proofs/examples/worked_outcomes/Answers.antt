use Rattle.std.proofs.Common.{refl}
use Rattle.std.specs.Fmt.{digits}
use Rattle.cm_judge.specs.Outcomes.{outcome_over}
use Rattle.cm_judge.proofs.examples.worked_outcomes.Goals as goal
use Rattle.cm_keys.specs.Lines.{lines_of}
use Rattle.cm_spec.specs.Lookup2.{absorb, finish, left_line, right_line, three_lines, words}
use Rattle.cm_spec.specs.Rounds.{left_after}
use Rattle.cm_witness_report.specs.Fields.{field_at}
use Rattle.cm_witness_report.specs.Parts.{bucket_head_at, edge_at, next_edge, next_pair, overfull_head_at, pair_at, plain_head_at, third_at}
use Rattle.cm_witness_report.specs.Reading.{edges_from, pairs_from, report_from, rest_from}

pub returns : goal.returns
unfolding digits words finish absorb three_lines left_line right_line left_after field_at bucket_head_at edge_at next_edge next_pair overfull_head_at pair_at plain_head_at third_at edges_from pairs_from report_from rest_from lines_of outcome_over
returns c = record { holds = λ _. refl; fails = λ _. refl; bad = λ _. refl; no_keys = λ _. refl; no_report = λ _. refl; no_keys_file = λ _. refl }
