use Rattle.cm_dump_items.specs.Reading.{field_at}
use Rattle.cm_dump_items.specs.StepLaws.{fails_then}
use Rattle.cm_dump.specs.Forms.{form_of}
use Rattle.cm_dump.specs.Spelling.{size_at}
use Rattle.cm_dump.proofs.rest.read_size.Goals as goal

pub returns-in-Err-clause-exact : goal.returns-in-Err-clause-exact
unfolding size_at
returns-in-Err-clause-exact c = λ bytes room few is.
    let v = form_of c.args.version in
    fails_then c.in-Err.fault (field_at v.size bytes c.args.at 0 v.most_size) _ (c.in-Err.ensures.exact bytes room few is)
