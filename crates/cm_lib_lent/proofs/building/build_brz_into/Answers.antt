use Rattle.std.proofs.Common.{arith, refl}
use Rattle.cm_lib_lent.proofs.BuildLemmas.{if_lacks_spilled, if_saved, spilled_is}
use Rattle.cm_lib_lent.proofs.building.build_brz_into.Goals as goal

-- the file was copied
pub returns-in-Ok-clause-saved : goal.returns-in-Ok-clause-saved
returns-in-Ok-clause-saved c = if_saved c.args.plan.now c.args.seeds.now c.args.keys.now c.args.room.now c.dump_into.new.room c.in-Ok.function c.dump_into.result (c.in-Ok.ensures.made _ refl _ refl) c.dump_into.ensures.dump

-- the function of the keys has a longer file, or memory ran out
pub returns-in-Ok-clause-refused : goal.returns-in-Ok-clause-refused
returns-in-Ok-clause-refused c =
    if_lacks_spilled c.args.plan.now c.args.seeds.now c.args.keys.now _ _ c.in-Ok.function c.dump_into.result (omega (arith, c.if-spill-needed.false, c.spill_len-needed.ensures.len)) (c.in-Ok.ensures.made _ refl _ refl) c.dump_into.ensures.lacks

-- there is no function
pub returns-in-Err-clause-refused : goal.returns-in-Err-clause-refused
returns-in-Err-clause-refused c =
    spilled_is c.args.plan.now c.args.seeds.now c.args.keys.now _ _ c.in-Err.fault c.fault_of.result (omega (arith, c.if-spill-needed.false, c.spill_len-needed.ensures.len))
    (c.in-Err.ensures.fault _ refl _ refl) c.in-Err.ensures.form c.fault_of.ensures.spill c.fault_of.ensures.other
