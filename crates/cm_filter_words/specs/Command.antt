-- The command that parses the arguments of cmph_filter, in clap's terms.
use Rattle.std.specs.Prelude.{codes}
use Rattle.clap.specs.Words.{App}
use Rattle.cm_words_arguments.specs.Command.{build_app}

-- the whole command: that of a program which builds, with -w
abbrev pub filter_app : App
filter_app = build_app (codes "cmph_filter") (codes "width") 119
