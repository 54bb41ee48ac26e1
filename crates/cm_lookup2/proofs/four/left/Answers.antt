use Rattle.cm_spec.specs.Lookup2.{left_line}
use Rattle.cm_lookup2.proofs.LaneLemmas.{line_of_four}
use Rattle.cm_lookup2.proofs.four.left.Goals as goal

pub returns : goal.returns
unfolding left_line
returns c = line_of_four _ _ _ c.args.k c.args.x c.args.y c.args.z c.requires.four
