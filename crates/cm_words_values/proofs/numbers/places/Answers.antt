use Rattle.cm_words_values.proofs.DigitLemmas.{scaled}
use Rattle.cm_words_values.proofs.numbers.places.Goals as goal

pub returns-in-Some-clause-small : goal.returns-in-Some-clause-small
returns-in-Some-clause-small c = scaled _ _ _ c.in-Some.ensures.small c.in-Some.ensures.short c.scale.ensures
