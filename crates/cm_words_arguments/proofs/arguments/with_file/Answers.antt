use Rattle.std.proofs.lemmas.Result.{IfOk-weaker}
use Rattle.cm_words_arguments.proofs.CommandLemmas.{file_added}
use Rattle.cm_words_arguments.proofs.arguments.with_file.Goals as goal

pub returns : goal.returns
returns c = IfOk-weaker c.arg.result _ _ (λ last adds. file_added c.required.ensures c.action-file.ensures c.new.ensures.optional.1 c.new.ensures.rule adds) c.arg.ensures
