-- The command that parses the arguments of cmph_store, in clap's terms.
use Rattle.std.specs.Prelude.{codes}
use Rattle.clap.specs.Words.{App}
use Rattle.cm_words_arguments.specs.Command.{build_app}

-- the whole command: that of a program which builds, with -b
abbrev pub store_app : App
store_app = build_app (codes "cmph_store") (codes "bits") 98
