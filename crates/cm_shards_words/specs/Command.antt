-- The command that parses the arguments of cmph_shards, in clap's terms.
use Rattle.std.specs.Prelude.{List, [], ◌∷◌, Some, true, codes}
use Rattle.clap.specs.Words.{App, Rule, Text, new_rule}
use Rattle.clap.specs.declared.builder.action.ArgAction.TheVariants.{Append}
use Rattle.cm_shards_words.specs.Program.{program}
use Rattle.cm_words_arguments.specs.Command.{app_for, flag_rule, value_rule}

abbrev pub options : List Rule
options =
    flag_rule (codes "join") 106 ∷  -- j
    flag_rule (codes "test") 116 ∷  -- t
    flag_rule (codes "zero") 122 ∷  -- z
    value_rule (codes "dir") 100 ∷  -- d
    value_rule (codes "first") 107 ∷  -- k
    value_rule (codes "manifest") 109 ∷  -- m
    value_rule (codes "shards") 110 ∷  -- n
    []

-- an argument that belongs to no option and is given any number of times, without which clap refuses the arguments
abbrev pub files_rule : Text → Rule
files_rule id = record (new_rule id) { action = Some Append; required = true }

-- the whole command: the options, and one or more files
abbrev pub shards_app : App
shards_app = app_for program options (files_rule (codes "files") ∷ [])
