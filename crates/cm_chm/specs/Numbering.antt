-- What a function over numbered keys is for.
use Rattle.std.specs.Prelude.{◌≡◌, ◌<◌, ℕ, List, length}
use Rattle.cm_spec.specs.Built.{key_at}
use Rattle.cm_spec.specs.Chm.{Chm, chm_answer}

-- the function returns the number of each key of the list
abbrev pub AnswersNumbers : List (ℕ × List ℕ) → Chm → Type 0
AnswersNumbers keys f = (i : ℕ) → i < length keys → chm_answer f (key_at keys i) ≡ i
