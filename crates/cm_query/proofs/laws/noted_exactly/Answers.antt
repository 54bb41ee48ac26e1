use Rattle.cm_query.proofs.NotedLemmas as noted
use Rattle.cm_query.proofs.laws.noted_exactly.Goals as goal

pub returns : goal.returns
returns c = noted.noted_exactly
