use Rattle.std.proofs.Common.{◌≡◌, ◌∙◌, ℕ, ◌-◌, ◌*◌, ◌%◌, ◌^◌, ap, arith}
use Rattle.std.specs.Prelude.{bit_and}
use Rattle.std.proofs.lemmas.Nat.{and_mask, one_shl}
use Rattle.cm_filter.proofs.scheme.lowest.Goals as goal

pub returns : goal.returns
returns c =
    let w = c.args.w in
    let shifted : 1 * 2 ^ w % 2 ^ 32 ≡ 2 ^ w = one_shl w 32 (omega (arith, c.requires.width)) in
    record { lowest = ap (λ (m : ℕ). bit_and c.args.number (m - 1)) shifted ∙ and_mask c.args.number w }
