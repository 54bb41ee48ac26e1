use Rattle.cm_judge.proofs.Steps.{loads_from}
use Rattle.cm_judge.proofs.loading.load_report.Goals as goal

pub returns-clause-loads : goal.returns-clause-loads
returns-clause-loads g c = λ files is.
    let opened = c.in-Ok.ensures.reader files is in
    loads_from files c.args.path.now opened.bytes c.read_report-loaded.result opened.there (c.read_report-loaded.ensures.exact opened.bytes opened.tells)
