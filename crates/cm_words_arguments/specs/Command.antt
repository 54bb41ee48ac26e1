-- The command that parses the arguments, in clap's terms.
use Rattle.std.specs.Prelude.{ℕ, Bool, true, List, [], ◌∷◌, Some, codes}
use Rattle.clap.specs.Words.{App, Rule, Text, new_app, new_rule, with_rule}
use Rattle.clap.specs.declared.builder.action.ArgAction.{ArgAction}
use Rattle.clap.specs.declared.builder.action.ArgAction.TheVariants.{Count, Set, SetTrue}

-- an option with a name within the program and a letter
abbrev pub option_rule : Text → ℕ → ArgAction → Rule
option_rule id letter action = record (new_rule id) { short = Some letter; action = Some action }

-- a flag, given at most once
abbrev pub flag_rule : Text → ℕ → Rule
flag_rule id letter = option_rule id letter SetTrue

-- a flag that may be given again
abbrev pub counted_rule : Text → ℕ → Rule
counted_rule id letter = option_rule id letter Count

-- an option with one text as its value, given at most once
abbrev pub value_rule : Text → ℕ → Rule
value_rule id letter = option_rule id letter Set

-- an argument that belongs to no option, and whether clap refuses arguments without it
abbrev pub file_rule : Text → Bool → Rule
file_rule id required = record (new_rule id) { action = Some Set; required = required }

-- The command with one argument more. It unfolds where that is asked for, so that goals show the list of arguments.
unfoldable pub with_argument : App → Rule → App
with_argument app rule = with_rule app rule

abbrev pub with_arguments : App → List Rule → App
with_arguments app [] = app
with_arguments app (rule ∷ rules) = with_arguments (with_argument app rule) rules

-- the command of this name without arguments: help and version by clap itself are off
abbrev pub bare_app : Text → App
bare_app name = let app = new_app name in record app {
  top = record app.top { disable_help_flag = true; disable_version_flag = true };
}

-- the command of this name with these options, and then these arguments that belong to none
abbrev pub app_for : Text → List Rule → List Rule → App
app_for name options files = with_arguments (with_arguments (bare_app name) options) files

-- The options of a program that makes a file of another, or asks what was made, with one of its own that has a value.
abbrev pub build_options : Text → ℕ → List Rule
build_options own letter =
    flag_rule (codes "generate") 103 ∷  -- g
    flag_rule (codes "zero") 122 ∷  -- z
    value_rule (codes "ratio") 99 ∷  -- c
    value_rule (codes "first") 107 ∷  -- k
    value_rule (codes "made") 109 ∷  -- m
    value_rule (codes "count") 114 ∷  -- r
    value_rule (codes "seed") 115 ∷  -- s
    value_rule own letter ∷ []

-- its whole command: these options, and the file whose lines are read, without which clap refuses the arguments
abbrev pub build_app : Text → Text → ℕ → App
build_app name own letter = app_for name (build_options own letter) (file_rule (codes "input") true ∷ [])
