use Rattle.cm_dump_brz.specs.IndexedLaws.{indexed_is}
use Rattle.cm_dump_brz.proofs.opening.open_brz.Goals as goal

pub returns-in-Ok-clause-answers : goal.returns-in-Ok-clause-answers
returns-in-Ok-clause-answers c = λ key. rw c.new.ensures.function (indexed_is _ c.in-Ok.ensures.valid c.in-Ok.ensures.offsets key)
