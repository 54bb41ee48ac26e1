use Rattle.std.proofs.Common.{◌∙◌, None, Some, ap}
use Rattle.cm_keys.specs.declared.keys.TheConstants.{LINE_END}
use Rattle.cm_keys_made.specs.Sources.{MadeSource}
use Rattle.cm_keys_made.specs.Texts.{made_text}
use Rattle.cm_keys.specs.Lines.{keys_in}
use Rattle.cm_tool.specs.Tested.{generated}
use Rattle.cm_tool.proofs.testing.generated_pass.Goals as goal

pub returns-clause-told : goal.returns-clause-told
unfolding generated
returns-clause-told c = c.new-2.ensures.told ∙ ap (λ (s : MadeSource). Some (keys_in None LINE_END (made_text s.keys))) c.new.ensures.state
