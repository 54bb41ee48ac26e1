use Rattle.cmph_c.proofs.HeldLemmas.{none_held}
use Rattle.cmph_c.proofs.function.held.Goals as goal

pub returns-in-None-brz_held-clause-none : goal.returns-in-None-brz_held-clause-none
returns-in-None-brz_held-clause-none c = none_held c.args.function.now c.in-4.is c.in-None-brz_held.ensures.none
