-- What the worked examples are about: arguments as they are typed, and a command.
use Rattle.std.specs.Prelude.{ℕ, ◌==◌, List, [], ◌∷◌, false, true, codes, if◌then◌else◌}
use Rattle.clap.specs.Words.{App, Text}
use Rattle.cm_words_arguments.specs.Command.{app_for, file_rule, flag_rule}

-- a byte more at the start of the first argument
abbrev pub in_first : ℕ → List Text → List Text
in_first b [] = (b ∷ []) ∷ []
in_first b (word ∷ words) = (b ∷ word) ∷ words

-- The arguments of a line: each blank (32) separates two of them, so that an empty argument stands before a blank at the start, after
-- one at the end, and between two.
abbrev pub typed : List ℕ → List Text
typed [] = [] ∷ []
typed (b ∷ bs) = if b == 32 then [] ∷ typed bs else in_first b (typed bs)

-- a flag -f, a file that is required, and one that isn't
abbrev pub two_files : App
two_files = app_for (codes "p") (flag_rule (codes "flag") 102 ∷ []) (file_rule (codes "one") true ∷ file_rule (codes "two") false ∷ [])
