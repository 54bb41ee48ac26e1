use Rattle.cm_dump.specs.Dumps.{dump_of}
use Rattle.cm_tool_files.proofs.UpgradeLemmas.{emptied, not_upgraded, upgrade_cause}
use Rattle.cm_tool_files.proofs.upgrading.upgrade_file.Goals as goal

pub returns-in-Err-clause-cause : goal.returns-in-Err-clause-cause
returns-in-Err-clause-cause g c = rw c.stop_of_load.ensures.stop (upgrade_cause c.in-Err.fault (g.D.Disk.state c.args.disk.now) (g.D.Disk.state c.load_func.new.disk) c.in-Err.ensures.cause c.load_func.ensures.write_faults)

pub returns-in-Err-clause-ends : goal.returns-in-Err-clause-ends
returns-in-Err-clause-ends g c = rw c.stop_of_load.ensures.stop (not_upgraded c.args.path.now _ _ c.in-Err.fault c.load_func.ensures.files c.in-Err.ensures.refused)

pub returns-in-Err-Memory-clause-ends : goal.returns-in-Err-Memory-clause-ends
returns-in-Err-Memory-clause-ends g c = emptied c.args.path.now (dump_of c.in-Ok.loaded.func) c.in-Ok.loaded _ _ _ c.load_func.ensures.files c.in-One.is c.in-Ok.ensures.spelled (rw c.in-Err-Memory.field-0-is at c.in-Err-Memory.ensures.files)
