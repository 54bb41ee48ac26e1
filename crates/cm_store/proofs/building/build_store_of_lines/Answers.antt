use Rattle.cm_store.proofs.Comes.{answers_lines}
use Rattle.cm_store.proofs.Lines.{fails_lines, fails_read, of_lines}
use Rattle.cm_store.proofs.building.build_store_of_lines.Goals as goal
use Rattle.std.proofs.Common.{Ok, Err}

pub returns-in-Ok-build_store-clause-made : goal.returns-in-Ok-build_store-clause-made
returns-in-Ok-build_store-clause-made g c = λ told known. of_lines c.args.plan c.args.seeds.now told c.in-Ok.records c.in-Ok-build_store.store (c.in-Ok.ensures.holds told known) c.in-Ok-build_store.ensures.made

pub returns-in-Ok-build_store-clause-comes : goal.returns-in-Ok-build_store-clause-comes
returns-in-Ok-build_store-clause-comes g c = λ told known. answers_lines c.args.plan c.args.seeds.now told (Ok c.in-Ok-build_store.store) (of_lines c.args.plan c.args.seeds.now told c.in-Ok.records c.in-Ok-build_store.store (c.in-Ok.ensures.holds told known) c.in-Ok-build_store.ensures.made) tt

pub returns-in-Err-build_store-clause-refused : goal.returns-in-Err-build_store-clause-refused
returns-in-Err-build_store-clause-refused g c = λ told known. fails_lines c.args.plan.c c.args.seeds.now told c.in-Ok.records c.in-Err-build_store.fault (c.in-Ok.ensures.holds told known) c.in-Err-build_store.ensures.refused

pub returns-in-Err-build_store-clause-comes : goal.returns-in-Err-build_store-clause-comes
returns-in-Err-build_store-clause-comes g c = λ told known. answers_lines c.args.plan c.args.seeds.now told (Err c.in-Err-build_store.fault) tt (fails_lines c.args.plan.c c.args.seeds.now told c.in-Ok.records c.in-Err-build_store.fault (c.in-Ok.ensures.holds told known) c.in-Err-build_store.ensures.refused)

pub returns-in-Err-clause-comes : goal.returns-in-Err-clause-comes
returns-in-Err-clause-comes g c = λ told known. rw c.fault_of_read.ensures.fault (answers_lines c.args.plan c.args.seeds.now told (Err _) tt (fails_read c.args.plan.c c.args.seeds.now told c.in-Err.fault (c.in-Err.ensures.fails told known)))
