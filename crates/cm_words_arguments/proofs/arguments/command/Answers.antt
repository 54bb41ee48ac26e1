use Rattle.std.proofs.Common.{map}
use Rattle.std.proofs.lemmas.Result.{IfOk-weaker}
use Rattle.cm_words_arguments.specs.Command.{file_rule, option_rule}
use Rattle.cm_words_arguments.proofs.CommandLemmas.{all_along}
use Rattle.cm_words_arguments.proofs.arguments.command.Goals as goal

pub returns : goal.returns
returns c =
    let options = map (λ o. option_rule o.0.now o.1 o.2) c.args.options.now in
    let files = map (λ f. file_rule f.0.now f.1) c.args.files.now in
    record { app = IfOk-weaker c.with_files.result _ _ (λ last is. all_along _ _ _ files is (all_along _ _ _ options c.in_ok-command.ensures c.bare.ensures)) c.with_files.ensures }
