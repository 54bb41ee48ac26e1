use Rattle.std.proofs.Common.{◌∙◌, sym, None, Some}
use Rattle.cm_judge_core.proofs.Graphs.{verdict_by_core, verdict_so_far}
use Rattle.cm_judge_core.proofs.two_core.core_verdict.Goals as goal
use Rattle.cm_judge_core.specs.Walks.{graph_judged}

pub returns-in-Some-clause-verdict : goal.returns-in-Some-clause-verdict
returns-in-Some-clause-verdict g c = λ told is.
    verdict_so_far (graph_judged (g.S.Scheme.rule c.args.scheme.now) told.keys c.args.c c.args.shown.now.seed) c.deref.result.now c.args.shown.now.edges.items c.args.shown.now.equal.items c.args.m c.size.result
    (Some c.in-Some.reason) (c.in_ok-reason.ensures.end told is).0 c.size.ensures.size c.deref.ensures.value (sym c.in-Some.is ∙ c.in_ok-reason.ensures.reason told is)

pub returns-in-Some-2-clause-verdict : goal.returns-in-Some-2-clause-verdict
returns-in-Some-2-clause-verdict g c = λ told is.
    verdict_by_core (graph_judged (g.S.Scheme.rule c.args.scheme.now) told.keys c.args.c c.args.shown.now.seed) c.deref.result.now c.args.shown.now.edges.items c.args.shown.now.equal.items c.args.m c.size.result
    (Some c.in-Some-2.reason) (c.in_ok-reason.ensures.end told is).0 c.size.ensures.size c.deref.ensures.value (sym c.in_default.is ∙ c.in_ok-reason.ensures.reason told is)
    (sym c.in-Some-2.is ∙ c.in_ok-reason-2.ensures.reason told (c.edge_fault.ensures.reads.told ∙ is))

pub returns-in-None-clause-verdict : goal.returns-in-None-clause-verdict
returns-in-None-clause-verdict g c = λ told is.
    verdict_by_core (graph_judged (g.S.Scheme.rule c.args.scheme.now) told.keys c.args.c c.args.shown.now.seed) c.deref.result.now c.args.shown.now.edges.items c.args.shown.now.equal.items c.args.m c.size.result
    None (c.in_ok-reason.ensures.end told is).0 c.size.ensures.size c.deref.ensures.value (sym c.in_default.is ∙ c.in_ok-reason.ensures.reason told is)
    (sym c.in-None.is ∙ c.in_ok-reason-2.ensures.reason told (c.edge_fault.ensures.reads.told ∙ is))
