use Rattle.std.proofs.Common.{◌∙◌, ◌<◌, arith, length, rules}
use Rattle.cm_bits.specs.Held.{packed_cells}
use Rattle.cm_brz_func.specs.Kept.{cells_in}
use Rattle.cm_brz_func.proofs.Ranking.{rank_below}
use Rattle.cm_brz_func.proofs.TableLemmas.{length-cells_in}
use Rattle.cm_brz_func.proofs.held.Held.answer_at.Goals as goal

pub returns-then-get-eq3-clause-answer : goal.returns-then-get-eq3-clause-answer
returns-then-get-eq3-clause-answer c = search rules

pub returns-else-get-eq3-clause-inside : goal.returns-else-get-eq3-clause-inside
returns-else-get-eq3-clause-inside c =
    let h = c.args.self.now in
    let t = c.args.table.now in
    let cells = cells_in (packed_cells 4 4 t.n t.bytes.items) h in
    let inside : c.chosen_among-v.result < length cells = omega (arith, c.chosen_among-v.ensures.inside, length-cells_in (packed_cells 4 4 t.n t.bytes.items) h c.requires.lies) in
    let below = rank_below cells c.chosen_among-v.result h.size inside (λ same. c.if-get-eq3.false (c.get.ensures.cell ∙ same)) c.requires.busy in
    omega (arith, c.rank.ensures.rank, below)
