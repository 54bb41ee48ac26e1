use Rattle.cmph_c.proofs.HeldLemmas.{no_brz}
use Rattle.cmph_c.proofs.function.brz_held.Goals as goal

pub returns-clause-none : goal.returns-clause-none
returns-clause-none c = no_brz c.args.function.now c.brz_of.result c.with_span.result c.brz_of.ensures.held c.brz_of.ensures.none c.with_span.ensures.none
