use Rattle.std.proofs.Common.{refl}
use Rattle.std.specs.Fmt.{digits}
use Rattle.cm_spec.specs.Lookup2.{absorb, finish, left_line, right_line, three_lines, words}
use Rattle.cm_spec.specs.Rounds.{left_after}
use Rattle.cm_witness_gather.proofs.laws.reports.Goals as goal

pub returns : goal.returns
unfolding digits absorb finish left_line right_line three_lines words left_after
returns c = record { two_empty = refl; three_empty = refl; none_equal = refl; letters = refl; triples = refl }
