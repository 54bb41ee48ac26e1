use Rattle.cm_shards.proofs.NumberedLemmas.{are_apart, are_sharded, have_no_gaps}
use Rattle.cm_shards.proofs.laws.numbers.Goals as goal
use Rattle.cm_shards.specs.Joined.{sharded}
use Rattle.cm_shards_split.specs.Outcomes.{told_of}

pub returns-clause-apart : goal.returns-clause-apart
returns-clause-apart c = λ job bytes functions is valid built.
    c.numbers_apart.ensures.apart (told_of job bytes).keys (sharded functions) (are_sharded job functions is valid built.each) (are_apart job bytes functions built)

pub returns-clause-taken : goal.returns-clause-taken
returns-clause-taken c = λ job bytes functions is valid built none.
    c.numbers_apart.ensures.taken (told_of job bytes).keys (sharded functions) (are_sharded job functions is valid built.each) (are_apart job bytes functions built) (have_no_gaps job bytes functions built none)
