use Rattle.std.proofs.Common.{◌∙◌, ℕ, length, sym, refl, arith}
use Rattle.std.proofs.Math.ListN.{length-set}
use Rattle.std.proofs.lemmas.List.{take_all}
use Rattle.cm_peel.specs.Waiting.{halves_in}
use Rattle.cm_peel.proofs.Pairs.{pairs_long, set_within, pair_read}
use Rattle.cm_peel.proofs.blocks.read_pairs.Goals as goal

pub halves-preserved : goal.halves-preserved
halves-preserved c =
    let inv = c.halves.invariant in
    let n : ℕ = length c.args.halves.now in
    record {
      long = length-set _ _ _ ∙ inv.long;
      high = set_within c.halves.halves c.halves.i _ c.halves-test.true;
      read = pair_read c.args.pairs.now c.halves.halves c.halves.i n _ _ c.requires.long (omega (arith, c.halves-test.true, inv.long)) (sym inv.long) inv.read refl refl;
    }

pub returns : goal.returns
returns c =
    let inv = c.halves.invariant in
    let n : ℕ = length c.args.halves.now in
    let long = pairs_long c.args.pairs.now n c.requires.long in
    sym (take_all c.halves.i c.halves.halves (omega (arith, c.halves-test.false))) ∙ (inv.read ∙ take_all c.halves.i (halves_in c.args.pairs.now) (omega (arith, c.halves-test.false, long, inv.long)))
