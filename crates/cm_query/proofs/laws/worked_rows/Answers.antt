use Rattle.std.proofs.Common.{refl}
use Rattle.std.specs.Fmt.{digits}
use Rattle.cm_query.proofs.laws.worked_rows.Goals as goal

pub returns-clause-zero_text : goal.returns-clause-zero_text
unfolding digits
returns-clause-zero_text c = refl

pub returns-clause-zero_notes : goal.returns-clause-zero_notes
unfolding digits
returns-clause-zero_notes c = refl

pub returns-clause-zero_tally : goal.returns-clause-zero_tally
returns-clause-zero_tally c = refl

pub returns-clause-known_text : goal.returns-clause-known_text
unfolding digits
returns-clause-known_text c = refl

pub returns-clause-known_notes : goal.returns-clause-known_notes
unfolding digits
returns-clause-known_notes c = refl

pub returns-clause-known_tally : goal.returns-clause-known_tally
returns-clause-known_tally c = refl
