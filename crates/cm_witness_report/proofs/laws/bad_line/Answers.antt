use Rattle.cm_witness_report.proofs.BadLemmas.{bad_begins}
use Rattle.cm_witness_report.proofs.LocalLemmas.{bad_most}
use Rattle.cm_witness_report.proofs.laws.bad_line.Goals as goal

pub returns-clause-begins : goal.returns-clause-begins
returns-clause-begins c = bad_begins

pub returns-clause-most : goal.returns-clause-most
returns-clause-most c = bad_most
