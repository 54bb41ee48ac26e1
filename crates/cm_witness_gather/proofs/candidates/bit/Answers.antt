use Rattle.std.proofs.Common.{◌∙◌, ◌/◌, ◌^◌, ap, arith}
use Rattle.std.proofs.lemmas.Nat.{and_mask, one_shl}
use Rattle.cm_witness_gather.proofs.candidates.bit.Goals as goal

pub returns : goal.returns
returns c =
    let chosen = and_mask (c.args.number / 2 ^ c.args.from) 6 in
    one_shl _ 64 (omega (arith, chosen)) ∙ ap (λ k. 2 ^ k) chosen
