use Rattle.cm_keys.proofs.SplittingLemmas.{pieces_are_lines}
use Rattle.cm_keys.proofs.splitting.Goals as goal

pub returns : goal.returns
returns c = record { lines = pieces_are_lines }
