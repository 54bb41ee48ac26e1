use Rattle.cm_dump_items.specs.Reading.{item_at, field_at}
use Rattle.cm_dump_items.specs.StepLaws.{fails_then}
use Rattle.cm_dump_items.proofs.part.short_of.Goals as goal

pub returns-in-Err-clause-exact : goal.returns-in-Err-clause-exact
unfolding field_at
returns-in-Err-clause-exact c = λ bytes room few is. fails_then c.in-Err.fault (item_at bytes c.args.at 2) _ (c.in-Err.ensures.exact bytes room few is)
