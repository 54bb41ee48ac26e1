use Rattle.std.proofs.Common.{arith, refl, ◌-◌, ◌/◌, ◌^◌, ◌≡◌}
use Rattle.std.proofs.lemmas.Nat.{and_mask}
use Rattle.cm_bits.proofs.bytes.part.Goals as goal

pub returns : goal.returns
returns c =
    let w = c.requires.ones in
    let ones : c.args.mask ≡ 2 ^ w.0 - 1 = omega (arith, w.2) in
    rw (w.2, ones, and_mask (c.args.number / 2 ^ c.args.shift) w.0) refl
