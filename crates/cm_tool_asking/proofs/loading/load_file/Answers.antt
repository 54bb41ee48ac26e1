use Rattle.cm_tool_asking.proofs.Steps.{load_cause, loads_from}
use Rattle.cm_tool_asking.proofs.loading.load_file.Goals as goal

pub returns-clause-cause : goal.returns-clause-cause
returns-clause-cause g c = load_cause c.load-loaded.result _ _ _ _ _ c.load-loaded.ensures.cause c.in-Ok.ensures.fresh c.shut.ensures.cause c.in-Ok.ensures.cause

pub returns-clause-loads : goal.returns-clause-loads
returns-clause-loads g c = λ files is.
    let opened = c.in-Ok.ensures.reader files is in
    loads_from g.A.Asked.meaning.spelling files c.args.path.now opened.bytes c.load-loaded.result opened.there (c.load-loaded.ensures.spelled opened.bytes opened.tells)
