use Rattle.std.proofs.Common.{◌≡◌, ℕ, ◌<◌, replicate, List}
use Rattle.std.specs.Int.{div_ceil}
use Rattle.cm_bits.specs.Held.{IsPacked, packed_cells}
use Rattle.cm_bits.proofs.PackedLemmas.{IsPacked-zero, packed_cells-zero}
use Rattle.cm_bits.specs.PackedLaws.{zero_lt}
use Rattle.cm_bits.proofs.packed.PackedCells.zeroed.Goals as goal

packed : (d p n k len : ℕ) (bs : List ℕ) → 0 < d → 0 < p → k ≡ p → len ≡ div_ceil n k → bs ≡ replicate len 0 → IsPacked d p n bs
packed d p n k len bs h q e l z = rw (z, l, e) (IsPacked-zero d p n h q)

zeros : (d p n k len : ℕ) (bs : List ℕ) → 0 < d → 0 < p → k ≡ p → len ≡ div_ceil n k → bs ≡ replicate len 0 → packed_cells d p n bs ≡ replicate n 0
zeros d p n k len bs h q e l z = rw (z, l, e) (packed_cells-zero d p n h q)

pub invariant_of-result-clause-is_packed : goal.invariant_of-result-clause-is_packed
invariant_of-result-clause-is_packed g c =
    packed g.B.Packing.BASE g.B.Packing.PER_BYTE c.args.n c.PER_BYTE.result c.div_ceil-len.result c.in_ok-bytes.bytes.items
    (zero_lt g.B.Packing.BASE g.met.B.Packing.is_base) g.met.B.Packing.is_count c.PER_BYTE.ensures c.div_ceil-len.ensures
    (c.in_ok-bytes.ensures.items_if_clones_equal (λ y e. e))

pub returns-clause-cells : goal.returns-clause-cells
returns-clause-cells g c =
    zeros g.B.Packing.BASE g.B.Packing.PER_BYTE c.args.n c.PER_BYTE.result c.div_ceil-len.result c.in_ok-bytes.bytes.items
    (zero_lt g.B.Packing.BASE g.met.B.Packing.is_base) g.met.B.Packing.is_count c.PER_BYTE.ensures c.div_ceil-len.ensures
    (c.in_ok-bytes.ensures.items_if_clones_equal (λ y e. e))
