use Rattle.std.proofs.Common.{arith, ap, inr, ◌∙◌, ◌≡◌, ◌+◌, length, below_more, get_or, Fits, w8, not}
use Rattle.std.proofs.lemmas.Bool.{cond-true}
use Rattle.std.proofs.lemmas.List.{length_push}
use Rattle.cm_bits.specs.Fault.{plain_cell}
use Rattle.cm_bits.specs.PlainLaws.{plain_fault-none}
use Rattle.cm_bits.proofs.PlainLemmas.{plain_fault-at, image-plain, in_list, more_cells}
use Rattle.cm_bits.proofs.plain.PlainCells.from_image.Goals as goal

pub returns-then-cell-bound-clause-fault : goal.returns-then-cell-bound-clause-fault
returns-then-cell-bound-clause-fault c =
    inr (plain_fault-at c.args.n c.args.bound c.loop-i.i c.args.bytes.now c.loop-i-test.true c.loop-i.invariant.below (omega (arith, c.cell_at-cell.ensures)))

pub loop-i-preserved : goal.loop-i-preserved
loop-i-preserved c =
    let pushed = c.push.ensures.items ∙ cond-true _ _ _ (c.is_err.ensures.negation ∙ ap not c.if-is_err.false) in
    record {
      len = ap length pushed ∙ length_push _ _ ∙ ap (λ n. n + 1) c.loop-i.invariant.len;
      made = more_cells c.loop-i.i (plain_cell c.args.bytes.now) c.loop-i.items.items c.push.new.self.items c.cell_at-cell.result c.loop-i.invariant.made c.cell_at-cell.ensures pushed;
      below = below_more _ _ c.loop-i.invariant.below (omega (arith, c.cell_at-cell.ensures));
    }

pub invariant_of-result-clause-in_bound : goal.invariant_of-result-clause-in_bound
invariant_of-result-clause-in_bound c =
    let e : c.loop-i.i ≡ c.args.n = omega arith in
    in_list c.args.bound c.loop-i.i (plain_cell c.args.bytes.now) c.loop-i.items.items c.loop-i.invariant.made c.loop-i.invariant.below

pub returns-clause-sound : goal.returns-clause-sound
returns-clause-sound c _ =
    plain_fault-none c.args.n c.args.bound c.args.bytes.now (λ k l. c.loop-i.invariant.below k (omega arith))

pub returns-clause-image : goal.returns-clause-image
returns-clause-image c =
    let e : c.loop-i.i ≡ c.args.n = omega arith in
    rw (c.loop-i.invariant.made, e) (image-plain c.args.n c.args.bytes.now c.requires.whole (λ k. let small : Fits w8 (get_or c.args.bytes.now k 0) = c.type_inv.bytes k in omega (arith, small)))
