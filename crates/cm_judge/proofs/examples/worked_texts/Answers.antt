use Rattle.std.proofs.Common.{refl}
use Rattle.std.specs.Fmt.{digits}
use Rattle.cm_judge.proofs.examples.worked_texts.Goals as goal

pub returns : goal.returns
unfolding digits
returns c = record { holds = refl; no_bucket = refl; no_key = refl; ends = refl; once = refl; missing = refl; count = refl; no_pair = refl; bad = refl }
