use Rattle.cm_witness_report.proofs.ReadLemmas as lemmas
use Rattle.cm_witness_report.proofs.laws.read_back.Goals as goal

pub returns : goal.returns
returns c = lemmas.read_back
