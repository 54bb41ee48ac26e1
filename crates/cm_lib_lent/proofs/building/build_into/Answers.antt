use Rattle.std.proofs.Common.{refl}
use Rattle.cm_lib_lent.proofs.BuildLemmas.{if_lacks, if_saved}
use Rattle.cm_lib_lent.proofs.building.build_into.Goals as goal

-- the function of the keys has a longer file, or memory ran out
pub returns-clause-refused : goal.returns-clause-refused
returns-clause-refused c = if_lacks c.args.plan.now c.args.seeds.now c.args.keys.now _ c.in-Ok.function c.dump_into.result (c.in-Ok.ensures.made _ refl _ refl) c.dump_into.ensures.lacks

-- its file was copied
pub returns-clause-saved : goal.returns-clause-saved
returns-clause-saved c = if_saved c.args.plan.now c.args.seeds.now c.args.keys.now c.args.room.now c.dump_into.new.room c.in-Ok.function c.dump_into.result (c.in-Ok.ensures.made _ refl _ refl) c.dump_into.ensures.dump
