use Rattle.cm_query.proofs.TextLemmas.{front_after}
use Rattle.cm_query.proofs.laws.front_of_text.Goals as goal

pub returns : goal.returns
returns c = front_after
