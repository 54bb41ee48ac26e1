use Rattle.std.proofs.Common.{sym, ◌∙◌}
use Rattle.cm_bits.proofs.FieldsFaultLemmas.{spare_search, fields_fault-at, fields_fault-past}
use Rattle.cm_bits.proofs.fields.fault_in.Goals as goal

pub returns-in-Some-clause-fault : goal.returns-in-Some-clause-fault
returns-in-Some-clause-fault c =
    sym (fields_fault-at c.args.width c.args.n c.args.bound c.in-Some.i c.args.bytes.now
    (spare_search c.args.width c.args.n c.args.bound _ c.args.bytes.now c.args.held.now c.requires.held c.in-Some.ensures))

pub returns-clause-fault : goal.returns-clause-fault
returns-clause-fault c =
    c.padding_fault.ensures
    ∙ sym (fields_fault-past c.args.width c.args.n c.args.bound c.args.bytes.now
    (spare_search c.args.width c.args.n c.args.bound _ c.args.bytes.now c.args.held.now c.requires.held c.in_default.ensures))
