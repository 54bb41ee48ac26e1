use Rattle.std.proofs.Common.{◌≡◌, map, take}
use Rattle.clap.specs.Words.{app_of}
use Rattle.cm_words_arguments.specs.Command.{option_rule, with_arguments}
use Rattle.cm_words_arguments.proofs.arguments.with_options.Given as goal

abbrev pub invariant-loop-id : goal.invariant-loop-id
invariant-loop-id l = app_of l.command ≡ with_arguments (app_of l.fn.command) (map (λ o. option_rule o.0.now o.1 o.2) (take l.id-index l.options))
