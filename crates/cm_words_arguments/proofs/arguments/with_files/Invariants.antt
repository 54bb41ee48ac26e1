use Rattle.std.proofs.Common.{◌≡◌, map, take}
use Rattle.clap.specs.Words.{app_of}
use Rattle.cm_words_arguments.specs.Command.{file_rule, with_arguments}
use Rattle.cm_words_arguments.proofs.arguments.with_files.Given as goal

abbrev pub invariant-loop-id : goal.invariant-loop-id
invariant-loop-id l = app_of l.command ≡ with_arguments (app_of l.fn.command) (map (λ f. file_rule f.0.now f.1) (take l.id-index l.files))
