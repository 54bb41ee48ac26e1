use Rattle.std.proofs.lemmas.Result.{IfOk-weaker}
use Rattle.cm_shards_words.proofs.ManyLemmas.{many_added}
use Rattle.cm_shards_words.proofs.arguments.with_many.Goals as goal

pub returns : goal.returns
returns c = IfOk-weaker c.arg.result _ _ (λ last adds. many_added c.required.ensures c.action-files.ensures c.new.ensures.optional.1 c.new.ensures.rule adds) c.arg.ensures
