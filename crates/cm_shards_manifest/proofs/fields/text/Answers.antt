use Rattle.cm_shards_manifest.proofs.NameLemmas.{name_known, name_refused}
use Rattle.cm_shards_manifest.proofs.fields.text.Goals as goal

pub returns-in-Ok-clause-exact : goal.returns-in-Ok-clause-exact
returns-in-Ok-clause-exact c = rw (← c.in-Ok.ensures.cases.0) at (name_known c.args.file.now c.in_ok-item.item.now c.args.at c.args.n c.in_ok-item.ensures.exact c.in-Ok.ensures.cases.1)

pub returns-in-Err-clause-exact : goal.returns-in-Err-clause-exact
returns-in-Err-clause-exact c = name_refused c.args.file.now c.in_ok-item.item.now c.args.at c.args.n c.in_ok-item.ensures.exact c.in-Err.ensures.cases.0
