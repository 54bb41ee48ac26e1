use Rattle.std.proofs.Common.{ℕ, ◌<◌, length, subst, sym}
use Rattle.cm_brz.proofs.Numbers.{all_in_buckets, numbers_apart}
use Rattle.cm_brz_split.specs.SizesLaws.{some_buckets}
use Rattle.cm_brz.proofs.laws.numbers_apart.Goals as goal

pub returns-clause-apart : goal.returns-clause-apart
returns-clause-apart c = λ keys ratio b seeds f some few within wide of. numbers_apart keys ratio b seeds f (λ kb seed many none. c.answers_apart.ensures.bdz kb ratio seed 0 many within none) of some few wide

pub returns-clause-all : goal.returns-clause-all
returns-clause-all c = λ keys ratio b seeds f some wide of. all_in_buckets keys ratio b seeds f of (subst (λ (n : ℕ). 0 < n) (sym of.count) (some_buckets (length keys) b some wide))
