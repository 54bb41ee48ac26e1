use Rattle.cmph_c.proofs.NumberLemmas.{bdz_numbers, bdz_ph_numbers, chm_numbers}
use Rattle.cmph_c.proofs.function.put.Goals as goal

pub returns-in-Chm-clause-numbers : goal.returns-in-Chm-clause-numbers
returns-in-Chm-clause-numbers c = rw c.in-Chm.is (chm_numbers c.of_chm.result c.parts.result c.in-Chm.chm c.of_chm.ensures.parts c.parts.ensures.fits c.parts.ensures.parts c.of_chm.ensures.unused)

pub returns-in-Bdz-clause-numbers : goal.returns-in-Bdz-clause-numbers
returns-in-Bdz-clause-numbers c = rw c.in-Bdz.is (bdz_numbers c.of_bdz.result c.parts-in-Bdz.result c.in-Bdz.bdz c.of_bdz.ensures.parts c.parts-in-Bdz.ensures.fits c.parts-in-Bdz.ensures.parts c.of_bdz.ensures.unused)

pub returns-in-BdzPh-clause-numbers : goal.returns-in-BdzPh-clause-numbers
returns-in-BdzPh-clause-numbers c = rw c.in-BdzPh.is (bdz_ph_numbers c.of_bdz_ph.result c.parts-in-BdzPh.result c.in-BdzPh.bdz_ph c.of_bdz_ph.ensures.parts c.parts-in-BdzPh.ensures.fits c.parts-in-BdzPh.ensures.parts c.of_bdz_ph.ensures.unused.0 c.of_bdz_ph.ensures.unused.1)
