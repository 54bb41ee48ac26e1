use Rattle.std.proofs.Common.{refl}
use Rattle.std.specs.Fmt.{digits}
use Rattle.cm_keys.specs.Lines.{lines_of}
use Rattle.cm_shards_split.specs.Outcomes.{outcome_over}
use Rattle.cm_shards_split.specs.Shares.{share_bytes, share_count}
use Rattle.cm_spec.specs.Lookup2.{absorb, finish, left_line, right_line, three_lines, words}
use Rattle.cm_shards_split.proofs.examples.worked_outcomes.Goals as goal

pub returns : goal.returns
unfolding digits words finish absorb three_lines left_line right_line lines_of outcome_over share_bytes share_count
returns c = record { lines = λ _. refl; none = λ _. refl; zero = λ _. refl; fault = λ _. refl }
