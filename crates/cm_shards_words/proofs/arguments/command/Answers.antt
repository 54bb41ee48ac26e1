use Rattle.std.proofs.Common.{◌∙◌, ap, codes}
use Rattle.std.proofs.lemmas.Result.{IfOk-weaker}
use Rattle.clap.specs.Words.{App}
use Rattle.cm_shards_words.specs.Command.{files_rule}
use Rattle.cm_words_arguments.specs.Command.{with_argument}
use Rattle.cm_shards_words.proofs.arguments.command.Goals as goal

pub returns : goal.returns
returns c = record {
  app = IfOk-weaker c.with_many.result _ _ (λ last is. is ∙ ap (λ (a : App). with_argument a (files_rule (codes "files"))) c.in_ok-command.ensures.app) c.with_many.ensures;
}
