use Rattle.std.proofs.lemmas.Result.{IfOk-weaker}
use Rattle.cm_words_arguments.proofs.CommandLemmas.{option_added}
use Rattle.cm_words_arguments.proofs.arguments.with_option.Goals as goal

pub returns : goal.returns
returns c = IfOk-weaker c.arg.result _ _ (λ last adds. option_added c.short.ensures c.action.ensures c.new.ensures.optional.1 c.new.ensures.rule adds) c.arg.ensures
