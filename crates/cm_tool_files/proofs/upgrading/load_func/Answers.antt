use Rattle.cm_tool_files.specs.AskedLaws.{spells_func}
use Rattle.cm_tool_files.proofs.UpgradeLemmas.{refused_dump}
use Rattle.cm_tool_files.proofs.upgrading.load_func.Goals as goal

pub returns-in-Ok-clause-spelled : goal.returns-in-Ok-clause-spelled
returns-in-Ok-clause-spelled g c = λ files is. spells_func files c.args.path.now c.in-Ok.asked (c.in-Ok.ensures.loads files is)

pub returns-in-Err-clause-refused : goal.returns-in-Err-clause-refused
returns-in-Err-clause-refused g c = λ files is. refused_dump files c.args.path.now c.in-Err.fault (c.in-Err.ensures.loads files is)
