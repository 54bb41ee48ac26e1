use Rattle.std.proofs.Common.{◌*◌}
use Rattle.cm_bits.proofs.CarryLemmas.{moved, of_four, unmoved}
use Rattle.cm_bits.proofs.blocks.at_pairs.Goals as goal

pub returns-clause-lanes : goal.returns-clause-lanes
returns-clause-lanes c =
    let x = c.args.number in
    let w = c.args.width in
    of_four _ (unmoved x w) (moved x (2 * w) c.requires.small) (moved x (4 * w) c.requires.small) (moved x (6 * w) c.requires.small)
