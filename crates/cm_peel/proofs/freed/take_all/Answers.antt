use Rattle.std.proofs.Common.{◌+◌, ◌<◌, arith, rules}
use Rattle.cm_peel.proofs.Settling.{marked_few}
use Rattle.cm_peel.proofs.freed.take_all.Goals as goal

pub take_block-count-requires-clause-state : goal.take_block-count-requires-clause-state
take_block-count-requires-clause-state c = (c.requires.state.0, c.requires.state.1, c.each.invariant.state _ _ c.requires.state.2)

pub overflow_add-count : goal.overflow_add-count
overflow_add-count c =
    let inv = c.each.invariant in
    let r = c.take_block-count.ensures.state _ _ (inv.state _ _ c.requires.state.2) in
    let small : c.each.count + c.take_block-count.result < 67108865 = omega (arith, marked_few c.take_block-count.new.marks, r.few_marks, c.take_block-count.ensures.count, inv.count) in
    search rules

pub returns-clause-none : goal.returns-clause-none
returns-clause-none c = λ b low. c.each.invariant.none b (omega (arith, c.each-test.false))
