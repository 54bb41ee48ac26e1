use Rattle.std.proofs.Common.{ap, ◌+◌}
use Rattle.cm_bits.proofs.FieldsLemmas.{width-at, IsFields-zero, AllBelow-zero, field_cells-zero}
use Rattle.cm_bits.proofs.fields.FieldsCells.zeroed.Goals as goal

pub ones-requires : goal.ones-requires
ones-requires c = (width-at c.args.bound c.width-width.result c.requires.fit.1 c.width-width.ensures).0

pub invariant_of-result-clause-is_fields : goal.invariant_of-result-clause-is_fields
invariant_of-result-clause-is_fields c =
    IsFields-zero c.width-width.result c.args.n _ c.in_ok-bytes.bytes.items (ap (λ l. l + 8) c.image_bytes-len.ensures) (c.in_ok-bytes.ensures.items_if_clones_equal (λ y e. e))

pub invariant_of-result-clause-in_bound : goal.invariant_of-result-clause-in_bound
invariant_of-result-clause-in_bound c =
    AllBelow-zero c.width-width.result c.args.n _ c.args.bound c.in_ok-bytes.bytes.items c.requires.fit.0 (c.in_ok-bytes.ensures.items_if_clones_equal (λ y e. e))

pub returns-clause-cells : goal.returns-clause-cells
returns-clause-cells c =
    field_cells-zero c.width-width.result c.args.n _ c.in_ok-bytes.bytes.items (c.in_ok-bytes.ensures.items_if_clones_equal (λ y e. e))
