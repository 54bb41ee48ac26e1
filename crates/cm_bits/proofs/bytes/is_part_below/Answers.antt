use Rattle.std.proofs.Common.{arith, ◌≤◌, ◌^◌}
use Rattle.std.proofs.lemmas.Bool.{lt-ltb, ltb-true}
use Rattle.cm_bits.proofs.FieldsLemmas.{part_below}
use Rattle.cm_bits.proofs.bytes.is_part_below.Goals as goal

pub returns : goal.returns
returns c =
    let w = c.requires.ones in
    let both = part_below c.args.number c.args.shift w.0 c.args.mask c.args.bound c.requires.shift w.1 w.2 (let most : c.args.bound ≤ 2 ^ w.0 = omega (arith, c.requires.bound, w.2) in most) in
    (λ is. both.0 (ltb-true _ _ is), λ l. lt-ltb _ _ (both.1 l))
