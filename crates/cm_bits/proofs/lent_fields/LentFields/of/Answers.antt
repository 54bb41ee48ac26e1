use Rattle.std.proofs.Common.{sym}
use Rattle.cm_bits.proofs.FieldsFaultLemmas.{sound_fields}
use Rattle.cm_bits.proofs.FieldsLemmas.{width-at}
use Rattle.cm_bits.proofs.lent_fields.LentFields.of.Goals as goal

pub lent_fault-requires-clause-some : goal.lent_fault-requires-clause-some
lent_fault-requires-clause-some c = (width-at c.args.bound c.width-width.result c.requires.small c.width-width.ensures).2

pub lent_fault-requires-clause-width : goal.lent_fault-requires-clause-width
lent_fault-requires-clause-width c = (width-at c.args.bound c.width-width.result c.requires.small c.width-width.ensures).0

pub lent_fault-requires-clause-bound : goal.lent_fault-requires-clause-bound
lent_fault-requires-clause-bound c = (width-at c.args.bound c.width-width.result c.requires.small c.width-width.ensures).1

pub returns-in-None-clause-below : goal.returns-in-None-clause-below
returns-in-None-clause-below c =
    rw c.new.ensures.cells ((sound_fields c.width-width.result c.args.n c.args.bound c.args.bytes.now (sym c.in-None.ensures)).1)

pub new-requires-clause-some : goal.new-requires-clause-some
new-requires-clause-some c = (width-at c.args.bound c.width-width.result c.requires.small c.width-width.ensures).2

pub new-requires-clause-narrow : goal.new-requires-clause-narrow
new-requires-clause-narrow c = (width-at c.args.bound c.width-width.result c.requires.small c.width-width.ensures).0
