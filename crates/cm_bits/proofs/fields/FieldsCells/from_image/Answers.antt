use Rattle.std.proofs.Common.{arith, ◌*◌, ◌≤◌}
use Rattle.std.proofs.Math.Nat.{mul-le-mul_left}
use Rattle.cm_spec.specs.Image.{width_of}
use Rattle.cm_bits.specs.FieldsLaws.{width-fits}
use Rattle.cm_bits.proofs.fields.FieldsCells.from_image.Goals as goal

pub with_room-requires : goal.with_room-requires
with_room-requires c =
    let most : c.args.n * width_of c.args.bound ≤ c.args.n * 26 = mul-le-mul_left c.args.n (width-fits c.args.bound c.requires.fit.1).1 in
    omega (arith, c.requires.whole, c.requires.room, most)
