use Rattle.cm_dump_brz.proofs.BucketLemmas.{cells_thirds}
use Rattle.cm_dump_brz.proofs.bucket.LentBucket.answer.Goals as goal

pub chosen_among-v-requires-clause-size : goal.chosen_among-v-requires-clause-size
chosen_among-v-requires-clause-size c = rw (c.cells-cells.ensures.cells, ← c.self.view_is) (cells_thirds c.self.inside.n c.self.inside.image.now (c.self.invariant.thirds c.if-self-eq0.false))
