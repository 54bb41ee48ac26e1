use Rattle.cm_dump_lent.specs.declared.lent.Lent.TheVariants as lent
use Rattle.cmph_c.proofs.HeldLemmas.{brz_number, no_brz_number, no_number}
use Rattle.cmph_c.proofs.SpanLemmas.{brz_below, held_below}
use Rattle.cmph_c.proofs.answering.cmph_c_answer.Goals as goal

pub returns-in-1-clause-none : goal.returns-in-1-clause-none
returns-in-1-clause-none c = no_number c.args.function.now (λ f. lent.Chm f) c.chm_held.result c.number_by.result c.chm_held.ensures.held c.number_by.ensures.none

pub returns-in-2-clause-none : goal.returns-in-2-clause-none
returns-in-2-clause-none c = no_number c.args.function.now (λ f. lent.Bdz f) c.bdz_held.result c.number_by-in-2.result c.bdz_held.ensures.held c.number_by-in-2.ensures.none

pub returns-in-3-clause-none : goal.returns-in-3-clause-none
returns-in-3-clause-none c = no_number c.args.function.now (λ f. lent.BdzPh f) c.bdz_ph_held.result c.number_by-in-3.result c.bdz_ph_held.ensures.held c.number_by-in-3.ensures.none

pub returns-in-4-clause-number : goal.returns-in-4-clause-number
returns-in-4-clause-number c = brz_number c.args.function.now c.args.key.now c.brz_held.result c.number_by-in-4.result c.in-4.is c.brz_held.ensures.held c.brz_held.ensures.none c.number_by-in-4.ensures.number

pub returns-in-4-clause-none : goal.returns-in-4-clause-none
returns-in-4-clause-none c = no_brz_number c.args.function.now c.brz_held.result c.number_by-in-4.result c.in-4.is c.brz_held.ensures.held c.number_by-in-4.ensures.none

pub returns-in-1-clause-below : goal.returns-in-1-clause-below
returns-in-1-clause-below c = held_below c.args.function.now (λ f. lent.Chm f) c.chm_held.result c.number_by.result c.chm_held.ensures.held c.number_by.ensures.below c.number_by.ensures.none

pub returns-in-2-clause-below : goal.returns-in-2-clause-below
returns-in-2-clause-below c = held_below c.args.function.now (λ f. lent.Bdz f) c.bdz_held.result c.number_by-in-2.result c.bdz_held.ensures.held c.number_by-in-2.ensures.below c.number_by-in-2.ensures.none

pub returns-in-3-clause-below : goal.returns-in-3-clause-below
returns-in-3-clause-below c = held_below c.args.function.now (λ f. lent.BdzPh f) c.bdz_ph_held.result c.number_by-in-3.result c.bdz_ph_held.ensures.held c.number_by-in-3.ensures.below c.number_by-in-3.ensures.none

pub returns-in-4-clause-below : goal.returns-in-4-clause-below
returns-in-4-clause-below c = brz_below c.args.function.now c.brz_held.result c.number_by-in-4.result c.brz_held.ensures.held c.number_by-in-4.ensures.below c.number_by-in-4.ensures.none
