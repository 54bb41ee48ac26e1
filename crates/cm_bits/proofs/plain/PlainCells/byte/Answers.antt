use Rattle.std.proofs.Common.{ap, arith, ◌/◌, ◌%◌, ◌^◌}
use Rattle.std.proofs.lemmas.List.{get_or_read}
use Rattle.cm_bits.specs.DigitsLaws.{pow_pow}
use Rattle.cm_spec.specs.Image.{plain_byte}
use Rattle.cm_bits.proofs.plain.PlainCells.byte.Goals as goal

pub returns : goal.returns
unfolding plain_byte
returns c =
    rw (pow_pow 2 8 (c.args.i % 4))
    (ap (λ x. x / 256 ^ (c.args.i % 4) % 256)
    (get_or_read c.args.self.now.items.items (c.args.i / 4) c.index-cell.result.now (omega arith) c.index-cell.ensures 0))
