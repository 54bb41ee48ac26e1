use Rattle.std.proofs.Common.{rules, arith, sym, ◌∙◌, ◌≡◌, ◌*◌, ◌≤◌, length}
use Rattle.std.proofs.Math.Nat.{mul-le-mul_left}
use Rattle.cm_spec.specs.Image.{width_of}
use Rattle.cm_bits.specs.FieldsLaws.{length-field_cells, width-fits}
use Rattle.cm_bits.proofs.FieldsLemmas.{width-at}
use Rattle.cm_bits.proofs.FieldsFaultLemmas.{fields_given, image_at}
use Rattle.cm_bits.proofs.fields.FieldsCells.from_bytes.Goals as goal

pub with_spare-requires : goal.with_spare-requires
with_spare-requires c =
    let most : c.args.n * width_of c.args.bound ≤ c.args.n * 26 = mul-le-mul_left c.args.n (width-fits c.args.bound c.requires.fit.1).1 in
    omega (arith, c.requires.whole, c.requires.room, most)

pub fault_in-requires-clause-width : goal.fault_in-requires-clause-width
fault_in-requires-clause-width c = (width-at c.args.bound c.width-width.result c.requires.fit.1 c.width-width.ensures).0

pub fault_in-requires-clause-some : goal.fault_in-requires-clause-some
fault_in-requires-clause-some c = (width-at c.args.bound c.width-width.result c.requires.fit.1 c.width-width.ensures).2

pub fault_in-requires-clause-bound : goal.fault_in-requires-clause-bound
fault_in-requires-clause-bound c = (width-at c.args.bound c.width-width.result c.requires.fit.1 c.width-width.ensures).1

pub ones-requires : goal.ones-requires
ones-requires c = (width-at c.args.bound c.width-width.result c.requires.fit.1 c.width-width.ensures).0

pub invariant_of-result-clause-is_fields : goal.invariant_of-result-clause-is_fields
invariant_of-result-clause-is_fields c =
    let size : c.len-len.result ≡ length c.args.bytes.items = search rules in
    let read = fields_given c.width-width.result c.args.n c.args.bound c.len-len.result c.args.bytes.items c.in-Ok.held.items c.deref-2.result.now (rw (← c.width-width.ensures) at c.requires.whole) size c.in-Ok.ensures c.deref-2.ensures.value (λ k. rw (c.deref.ensures.value, ← c.deref-2.ensures.value) at (c.fault_in.ensures.fit k)) (sym (c.fault_in.ensures.fault) ∙ c.in_default-fault_in.is) in
    read.fields

pub invariant_of-result-clause-in_bound : goal.invariant_of-result-clause-in_bound
invariant_of-result-clause-in_bound c =
    let size : c.len-len.result ≡ length c.args.bytes.items = search rules in
    let read = fields_given c.width-width.result c.args.n c.args.bound c.len-len.result c.args.bytes.items c.in-Ok.held.items c.deref-2.result.now (rw (← c.width-width.ensures) at c.requires.whole) size c.in-Ok.ensures c.deref-2.ensures.value (λ k. rw (c.deref.ensures.value, ← c.deref-2.ensures.value) at (c.fault_in.ensures.fit k)) (sym (c.fault_in.ensures.fault) ∙ c.in_default-fault_in.is) in
    read.in_bound

pub returns-clause-len : goal.returns-clause-len
returns-clause-len c = length-field_cells _ _ _

pub returns-clause-image : goal.returns-clause-image
returns-clause-image c =
    let size : c.len-len.result ≡ length c.args.bytes.items = search rules in
    let read = fields_given c.width-width.result c.args.n c.args.bound c.len-len.result c.args.bytes.items c.in-Ok.held.items c.deref-2.result.now (rw (← c.width-width.ensures) at c.requires.whole) size c.in-Ok.ensures c.deref-2.ensures.value (λ k. rw (c.deref.ensures.value, ← c.deref-2.ensures.value) at (c.fault_in.ensures.fit k)) (sym (c.fault_in.ensures.fault) ∙ c.in_default-fault_in.is) in
    image_at c.width-width.result _ c.args.n c.args.bytes.items _ c.width-width.ensures read.image
