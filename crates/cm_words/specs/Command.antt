-- The command that parses the arguments of cmph, in clap's terms.
use Rattle.std.specs.Prelude.{List, [], ◌∷◌, false, codes}
use Rattle.clap.specs.Words.{App, Rule}
use Rattle.cm_words_arguments.specs.Command.{app_for, counted_rule, file_rule, flag_rule, value_rule}

abbrev pub options : List Rule
options =
    flag_rule (codes "help") 104 ∷  -- h
    flag_rule (codes "version") 86 ∷  -- V
    counted_rule (codes "verbose") 118 ∷  -- v
    flag_rule (codes "generate") 103 ∷  -- g
    flag_rule (codes "upgrade") 117 ∷  -- u
    flag_rule (codes "zero") 122 ∷  -- z
    value_rule (codes "algorithm") 97 ∷  -- a
    value_rule (codes "bits") 98 ∷  -- b
    value_rule (codes "ratio") 99 ∷  -- c
    value_rule (codes "directory") 100 ∷  -- d
    value_rule (codes "hash") 102 ∷  -- f
    value_rule (codes "buffer") 77 ∷  -- M
    value_rule (codes "count") 114 ∷  -- r
    value_rule (codes "seed") 115 ∷  -- s
    value_rule (codes "test") 84 ∷  -- T
    value_rule (codes "first") 107 ∷  -- k
    value_rule (codes "function") 109 ∷  -- m
    []

-- the whole command: the options, and the keys file, which some jobs don't need
abbrev pub cmph_app : App
cmph_app = app_for (codes "cmph") options (file_rule (codes "keys") false ∷ [])
