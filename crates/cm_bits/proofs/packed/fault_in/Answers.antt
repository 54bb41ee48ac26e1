use Rattle.std.proofs.Common.{sym, refl, true, false, ◌≡◌}
use Rattle.cm_bits.proofs.PackedFaultLemmas.{fault-large, fault-padding, fault-clear, fault-full}
use Rattle.cm_bits.proofs.packed.fault_in.Goals as goal

pub returns-in-Some : goal.returns-in-Some
returns-in-Some g c =
    rw c.PER_BYTE-per_byte.ensures
    (sym (fault-large g.B.Packing.BASE g.B.Packing.PER_BYTE c.args.n c.in-Some.place c.args.bytes.now g.met.B.Packing.is_count c.requires.whole
    (sym (rw (c.FULL.ensures, g.met.B.Packing.is_full) at c.in-Some.ensures))))

pub returns-then-not-is_clear : goal.returns-then-not-is_clear
returns-then-not-is_clear g c =
    sym (fault-padding g.B.Packing.BASE g.B.Packing.PER_BYTE c.args.n c.args.bytes.now g.met.B.Packing.is_count c.requires.whole
    (sym (rw (c.FULL.ensures, g.met.B.Packing.is_full) at c.in_default.ensures))
    (rw c.PER_BYTE-per_byte.ensures at c.if-used-ne0.true)
    (λ e. let never : false ≡ true = c.if-not-is_clear.ensures.1 (rw c.PER_BYTE-per_byte.ensures e) in cc))

pub returns-else-not-is_clear : goal.returns-else-not-is_clear
returns-else-not-is_clear g c =
    sym (fault-clear g.B.Packing.BASE g.B.Packing.PER_BYTE c.args.n c.args.bytes.now g.met.B.Packing.is_count c.requires.whole
    (sym (rw (c.FULL.ensures, g.met.B.Packing.is_full) at c.in_default.ensures))
    (rw c.PER_BYTE-per_byte.ensures at c.if-used-ne0.true)
    (rw c.PER_BYTE-per_byte.ensures at (c.if-not-is_clear.ensures.0 refl)))

pub returns-else-used-ne0 : goal.returns-else-used-ne0
returns-else-used-ne0 g c =
    sym (fault-full g.B.Packing.BASE g.B.Packing.PER_BYTE c.args.n c.args.bytes.now g.met.B.Packing.is_count c.requires.whole
    (sym (rw (c.FULL.ensures, g.met.B.Packing.is_full) at c.in_default.ensures))
    (rw c.PER_BYTE-per_byte.ensures at c.if-used-ne0.false))
