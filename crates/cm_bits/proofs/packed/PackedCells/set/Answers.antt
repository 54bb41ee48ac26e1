use Rattle.std.proofs.Common.{arith, ◌/◌}
use Rattle.std.proofs.lemmas.List.{get_or_read}
use Rattle.cm_bits.proofs.PackedLemmas.{byte_there, byte_whole, changed}
use Rattle.cm_bits.proofs.packed.PackedCells.set.Goals as goal

pub index-byte-requires : goal.index-byte-requires
index-byte-requires g c =
    let s = c.args.self.now in
    rw c.PER_BYTE-per_byte.ensures (omega (arith, byte_there g.B.Packing.BASE g.B.Packing.PER_BYTE s.n c.args.i s.bytes.items g.met.B.Packing.is_count s.is_packed.len c.requires.index))

pub with_digit-requires-clause-whole : goal.with_digit-requires-clause-whole
with_digit-requires-clause-whole g c =
    let s = c.args.self.now in
    let there = byte_there g.B.Packing.BASE g.B.Packing.PER_BYTE s.n c.args.i s.bytes.items g.met.B.Packing.is_count s.is_packed.len c.requires.index in
    let read = get_or_read s.bytes.items (c.args.i / g.B.Packing.PER_BYTE) c.index-byte.result.now there (rw c.PER_BYTE-per_byte.ensures at c.index-byte.ensures) 0 in
    rw (read, g.met.B.Packing.is_full) (byte_whole g.B.Packing.BASE g.B.Packing.PER_BYTE s.n (c.args.i / g.B.Packing.PER_BYTE) s.bytes.items g.met.B.Packing.is_base s.is_packed there)

pub index_mut-requires : goal.index_mut-requires
index_mut-requires g c =
    let s = c.args.self.now in
    rw c.PER_BYTE-per_byte.ensures (omega (arith, byte_there g.B.Packing.BASE g.B.Packing.PER_BYTE s.n c.args.i s.bytes.items g.met.B.Packing.is_count s.is_packed.len c.requires.index))

pub invariant_of-self-clause-is_packed : goal.invariant_of-self-clause-is_packed
invariant_of-self-clause-is_packed g c =
    let s = c.args.self.now in
    let there = byte_there g.B.Packing.BASE g.B.Packing.PER_BYTE s.n c.args.i s.bytes.items g.met.B.Packing.is_count s.is_packed.len c.requires.index in
    let read = get_or_read s.bytes.items (c.args.i / g.B.Packing.PER_BYTE) c.index-byte.result.now there (rw c.PER_BYTE-per_byte.ensures at c.index-byte.ensures) 0 in
    rw c.PER_BYTE-per_byte.ensures
    (changed g.B.Packing.BASE g.B.Packing.PER_BYTE s.n c.args.i c.args.value c.with_digit.result s.bytes.items g.met.B.Packing.is_base g.met.B.Packing.is_count s.is_packed
    c.requires.index c.requires.below (rw (c.PER_BYTE-per_byte.ensures, read) at c.with_digit.ensures)).packed

pub returns-clause-cells : goal.returns-clause-cells
returns-clause-cells g c =
    let s = c.args.self.now in
    let there = byte_there g.B.Packing.BASE g.B.Packing.PER_BYTE s.n c.args.i s.bytes.items g.met.B.Packing.is_count s.is_packed.len c.requires.index in
    let read = get_or_read s.bytes.items (c.args.i / g.B.Packing.PER_BYTE) c.index-byte.result.now there (rw c.PER_BYTE-per_byte.ensures at c.index-byte.ensures) 0 in
    rw c.PER_BYTE-per_byte.ensures
    (changed g.B.Packing.BASE g.B.Packing.PER_BYTE s.n c.args.i c.args.value c.with_digit.result s.bytes.items g.met.B.Packing.is_base g.met.B.Packing.is_count s.is_packed
    c.requires.index c.requires.below (rw (c.PER_BYTE-per_byte.ensures, read) at c.with_digit.ensures)).cells
