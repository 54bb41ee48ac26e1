use Rattle.std.proofs.Common.{arith}
use Rattle.cm_bits.specs.Fault.{bytes_number}
use Rattle.cm_bits.proofs.FieldsLemmas.{field_inside, field_room, width-at, field_sets}
use Rattle.cm_bits.proofs.fields.FieldsCells.set.Goals as goal

pub window-old-requires : goal.window-old-requires
window-old-requires c =
    let s = c.args.self.now in
    rw c.deref.ensures.value (field_room s.width s.n c.args.i s.bytes.items s.is_fields.len (field_inside s.width s.n (bytes_number s.bytes.items) c.args.i c.requires.index))

pub with_part-new-requires-clause-ones : goal.with_part-new-requires-clause-ones
with_part-new-requires-clause-ones c =
    let s = c.args.self.now in
    (s.width, (width-at s.bound s.width s.small s.is_width).0, s.is_mask)

pub with_part-new-requires-clause-value : goal.with_part-new-requires-clause-value
with_part-new-requires-clause-value c =
    let s = c.args.self.now in
    omega (arith, (width-at s.bound s.width s.small s.is_width).1, s.is_mask)

pub put_window-requires : goal.put_window-requires
put_window-requires c =
    let s = c.args.self.now in
    field_room s.width s.n c.args.i s.bytes.items s.is_fields.len (field_inside s.width s.n (bytes_number s.bytes.items) c.args.i c.requires.index)

pub invariant_of-self-clause-is_fields : goal.invariant_of-self-clause-is_fields
invariant_of-self-clause-is_fields c =
    let s = c.args.self.now in
    (field_sets s.bound s.width s.n c.args.i c.args.value c.with_part-new.result s.bytes.items c.put_window.new.bytes.items
    s.small s.is_width s.is_fields s.in_bound (omega (arith, c.with_part-new.type_inv)) c.requires.index c.requires.below
    (rw (c.window-old.ensures, c.deref.ensures.value, s.is_mask) at c.with_part-new.ensures) c.put_window.ensures).fields

pub invariant_of-self-clause-in_bound : goal.invariant_of-self-clause-in_bound
invariant_of-self-clause-in_bound c =
    let s = c.args.self.now in
    (field_sets s.bound s.width s.n c.args.i c.args.value c.with_part-new.result s.bytes.items c.put_window.new.bytes.items
    s.small s.is_width s.is_fields s.in_bound (omega (arith, c.with_part-new.type_inv)) c.requires.index c.requires.below
    (rw (c.window-old.ensures, c.deref.ensures.value, s.is_mask) at c.with_part-new.ensures) c.put_window.ensures).in_bound

pub returns-clause-cells : goal.returns-clause-cells
returns-clause-cells c =
    let s = c.args.self.now in
    (field_sets s.bound s.width s.n c.args.i c.args.value c.with_part-new.result s.bytes.items c.put_window.new.bytes.items
    s.small s.is_width s.is_fields s.in_bound (omega (arith, c.with_part-new.type_inv)) c.requires.index c.requires.below
    (rw (c.window-old.ensures, c.deref.ensures.value, s.is_mask) at c.with_part-new.ensures) c.put_window.ensures).cells
