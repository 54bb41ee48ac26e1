use Rattle.std.proofs.Common.{arith, sym, ◌∙◌, ◌≡◌, ◌^◌, below_more}
use Rattle.std.proofs.lemmas.Nat.{mod_below, pow_pos, one_shl}
use Rattle.cm_bits.specs.Fault.{bytes_number}
use Rattle.cm_bits.proofs.FieldsFaultLemmas.{bad_at, bad_none}
use Rattle.cm_bits.proofs.fields.bad_cell.Goals as goal

pub returns-then-bound-width : goal.returns-then-bound-width
returns-then-bound-width c =
    let all : c.args.bound ≡ 2 ^ c.args.width = c.if-bound-width.true ∙ one_shl c.args.width 32 (omega (arith, c.requires.held.width)) in
    sym (bad_none c.args.width c.args.n c.args.bound (bytes_number c.args.held.now) (λ k l. rw all (mod_below _ (2 ^ c.args.width) (pow_pos c.args.width))))

pub blocks_below-blocks-requires-clause-below : goal.blocks_below-blocks-requires-clause-below
blocks_below-blocks-requires-clause-below c k l =
    let none = c.clear_cells.ensures k (omega arith) in
    rw none c.requires.positive

pub loop-i-init : goal.loop-i-init
loop-i-init c k l = c.groups_below-groups.ensures.below k l

pub returns-then-cell-bound : goal.returns-then-cell-bound
returns-then-cell-bound c =
    sym (bad_at c.args.width c.args.n c.args.bound c.loop-i.i (bytes_number c.args.held.now) c.loop-i-test.true c.loop-i.invariant (rw c.cell.ensures at c.if-cell-bound.true))

pub loop-i-preserved : goal.loop-i-preserved
loop-i-preserved c = below_more _ _ c.loop-i.invariant (rw c.cell.ensures at c.if-cell-bound.false)

pub returns : goal.returns
returns c = sym (bad_none c.args.width c.args.n c.args.bound (bytes_number c.args.held.now) (λ k l. c.loop-i.invariant k (omega arith)))
