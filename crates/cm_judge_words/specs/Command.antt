-- The command that parses the arguments of cmph_judge, in clap's terms.
use Rattle.std.specs.Prelude.{List, [], ◌∷◌, true, codes}
use Rattle.clap.specs.Words.{App, Rule}
use Rattle.cm_words_arguments.specs.Command.{app_for, file_rule, flag_rule, value_rule}

abbrev pub options : List Rule
options =
    flag_rule (codes "zero") 122 ∷  -- z
    value_rule (codes "width") 98 ∷  -- b
    value_rule (codes "ratio") 99 ∷  -- c
    value_rule (codes "first") 107 ∷  -- k
    []

-- the whole command: the options, the report and the keys file, of which clap refuses to miss one
abbrev pub judge_app : App
judge_app = app_for (codes "cmph_judge") options (file_rule (codes "report") true ∷ file_rule (codes "keys") true ∷ [])
