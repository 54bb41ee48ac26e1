use Rattle.cm_keys_made.proofs.TextLemmas.{length-text}
use Rattle.cm_keys_made.proofs.laws.text_length.Goals as goal

pub returns : goal.returns
returns c = length-text
