use Rattle.std.proofs.Common.{sym, ◌∙◌}
use Rattle.cm_bits.proofs.FieldsFaultLemmas.{fields_fault-at, fields_fault-past}
use Rattle.cm_bits.proofs.lent_fields.lent_fault.Goals as goal

pub returns-in-Some : goal.returns-in-Some
returns-in-Some c = sym (fields_fault-at c.args.width c.args.n c.args.bound c.in-Some.i c.args.bytes.now (sym c.in-Some.ensures))

pub returns : goal.returns
returns c =
    c.padding_fault.ensures ∙ sym (fields_fault-past c.args.width c.args.n c.args.bound c.args.bytes.now (sym c.in_default.ensures))
