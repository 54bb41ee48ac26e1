use Rattle.std.proofs.Common.{arith, sym, below_more, ◌*◌, ◌/◌, ◌≤◌, length}
use Rattle.cm_bits.specs.Fault.{bytes_number}
use Rattle.cm_bits.proofs.FieldsFaultLemmas.{bad_at, bad_none}
use Rattle.cm_bits.proofs.LentFieldsLemmas.{bad_before, cell_there, groups_le, none_before}
use Rattle.cm_bits.proofs.lent_fields.lent_bad_cell.Goals as goal

pub returns-in-Some : goal.returns-in-Some
returns-in-Some c =
    let few : 8 * (c.saturating_sub.result / c.args.width) ≤ c.args.n = rw c.saturating_sub.ensures (groups_le c.args.width c.args.n (length c.args.bytes.now) c.requires.some c.requires.whole) in
    sym (bad_before c.args.width _ c.args.n c.args.bound c.in-Some.i (bytes_number c.args.bytes.now) few (sym c.in-Some.ensures))

pub loop-i-init : goal.loop-i-init
loop-i-init c = none_before c.args.width _ c.args.bound c.args.bytes.now (sym c.in_default.ensures)

pub lent_cell-requires-clause-room : goal.lent_cell-requires-clause-room
lent_cell-requires-clause-room c = omega (arith, c.requires.whole, cell_there c.args.width c.args.n c.loop-i.i c.requires.some (omega (arith, c.loop-i-test.true)))

pub returns-then-lent_cell-bound : goal.returns-then-lent_cell-bound
returns-then-lent_cell-bound c =
    sym (bad_at c.args.width c.args.n c.args.bound c.loop-i.i (bytes_number c.args.bytes.now) (omega (arith, c.loop-i-test.true)) c.loop-i.invariant (rw c.lent_cell.ensures at c.if-lent_cell-bound.true))

pub loop-i-preserved : goal.loop-i-preserved
loop-i-preserved c = below_more _ _ c.loop-i.invariant (rw c.lent_cell.ensures at c.if-lent_cell-bound.false)

pub returns : goal.returns
returns c = sym (bad_none c.args.width c.args.n c.args.bound (bytes_number c.args.bytes.now) (λ k l. c.loop-i.invariant k (omega (arith, c.loop-i-test.false, l))))
