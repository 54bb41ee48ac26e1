use Rattle.cm_words_arguments.proofs.CommandLemmas.{option_more}
use Rattle.cm_words_arguments.proofs.arguments.with_options.Goals as goal

pub loop-id-preserved : goal.loop-id-preserved
loop-id-preserved c = option_more _ _ _ _ c.args.options.now c.loop-id.id-index _ c.loop-id-test.true c.loop-id.invariant c.in_ok-command.ensures
