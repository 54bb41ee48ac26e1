use Rattle.cm_witness_report.proofs.SpelledLemmas as lemmas
use Rattle.cm_witness_report.proofs.laws.reads_reports.Goals as goal

pub returns : goal.returns
returns c = lemmas.reads_reports
