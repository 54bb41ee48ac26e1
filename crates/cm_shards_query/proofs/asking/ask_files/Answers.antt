use Rattle.std.proofs.Common.{◌≡◌, ◌∙◌}
use Rattle.cm_shards_query.proofs.Steps.{err_none, with_loaded}
use Rattle.cm_tool_asking.specs.Leaves.{wrote}
use Rattle.cm_shards_query.proofs.asking.ask_files.Goals as goal

pub returns-in-Err-clause-err : goal.returns-in-Err-clause-err
returns-in-Err-clause-err g c = err_none _ _

pub returns-in-Ok-clause-told : goal.returns-in-Ok-clause-told
returns-in-Ok-clause-told g c = λ files is.
    let path : c.as_str.result.now ≡ c.args.job.now.manifest = c.as_str.ensures.bytes in
    let loads = rw path at (c.in-Ok.ensures.loads files is) in
    let told = c.ask_keys.ensures.told files (c.load_shards.ensures.disk.files ∙ is) in
    (told.0, told.1, with_loaded c.args.job.now c.in-Ok.shards files (wrote _ _ told.0) c.ask_keys.result loads told.2)
