use Rattle.std.proofs.Common.{arith, ap, refl, ◌∙◌, ◌≡◌, ◌+◌, ◌-◌, ◌*◌, ◌%◌, ◌^◌}
use Rattle.std.proofs.lemmas.Bool.{eqb-true, eq-eqb}
use Rattle.std.proofs.lemmas.Nat.Bits.{bit_at-zero}
use Rattle.cm_bits.specs.declared.blocks.TheConstants.{BLOCK}
use Rattle.cm_bits.specs.AppendLaws.{cell_of_zeros}
use Rattle.cm_bits.proofs.CarryLemmas.{added_is, after_is, block_clear, carries_more}
use Rattle.cm_bits.proofs.blocks.is_block_below.Goals as goal

pub at_pairs-added-requires-clause-small : goal.at_pairs-added-requires-clause-small
at_pairs-added-requires-clause-small c =
    let is = added_is c.args.width c.args.bound c.requires.width c.requires.positive c.requires.bound in
    rw is.0 is.1

pub at_pairs-after-requires-clause-small : goal.at_pairs-after-requires-clause-small
at_pairs-after-requires-clause-small c = let is = after_is c.args.width c.requires.width in rw is.0 is.1

pub loop-g-init : goal.loop-g-init
loop-g-init c = (refl, λ j l i. (λ none h from to. absurd (omega arith), λ all. rw (cell_of_zeros 4 j) (bit_at-zero i)))

pub loop-g-preserved : goal.loop-g-preserved
loop-g-preserved c =
    let w = c.args.width in
    let is = added_is w c.args.bound c.requires.width c.requires.positive c.requires.bound in
    rw c.carries-found.ensures (carries_more w (2 ^ w - c.args.bound) c.args.first c.loop-g.g c.args.held.now c.loop-g.found c.pairs.result c.at_pairs-added.result c.loop-g.auto.g c.loop-g.invariant
    c.pairs.ensures.four c.pairs.ensures.lanes c.at_pairs-added.ensures.four (λ j l. c.at_pairs-added.ensures.lanes j l ∙ ap (λ n. n * 2 ^ (2 * j * w % 8)) is.0))

pub returns : goal.returns
returns c =
    let w = c.args.width in
    let is = after_is w c.requires.width in
    let end : c.loop-g.g ≡ c.args.first + BLOCK = omega (arith, c.loop-g-test.false, c.loop-g.auto.g-end) in
    let block =
    block_clear w c.args.first BLOCK c.args.bound c.args.held.now c.loop-g.found c.at_pairs-after.result c.requires.width c.requires.positive c.requires.bound c.requires.fit
    (rw end at c.loop-g.invariant)
    c.at_pairs-after.ensures.four (λ j l. c.at_pairs-after.ensures.lanes j l ∙ ap (λ n. n * 2 ^ (2 * j * w % 8)) is.0)
    c.requires.below in
    (λ none. block.0 (eqb-true _ _ none), λ all. eq-eqb _ _ (block.1 all))
