use Rattle.std.proofs.Common.{refl}
use Rattle.cm_algo_names.specs.declared.algorithm.Algorithm.TheVariants.{Bdz, BdzPh, Chm}
use Rattle.cm_judge_reports.proofs.VerdictLemmas as lemma
use Rattle.cm_judge_reports.proofs.judging.verdict_by.Goals as goal

pub graph_verdict-requires-clause-edges : goal.graph_verdict-requires-clause-edges
graph_verdict-requires-clause-edges g c = lemma.edges_up _ _ c.requires.report.edges_are

pub graph_verdict-requires-clause-equal : goal.graph_verdict-requires-clause-equal
graph_verdict-requires-clause-equal g c = lemma.pairs_up _ c.requires.report.pairs_are

pub graph_verdict-requires-in-Bdz-clause-edges : goal.graph_verdict-requires-in-Bdz-clause-edges
graph_verdict-requires-in-Bdz-clause-edges g c = lemma.edges_up _ _ c.requires.report.edges_are

pub graph_verdict-requires-in-Bdz-clause-equal : goal.graph_verdict-requires-in-Bdz-clause-equal
graph_verdict-requires-in-Bdz-clause-equal g c = lemma.pairs_up _ c.requires.report.pairs_are

pub graph_verdict-requires-in-BdzPh-clause-edges : goal.graph_verdict-requires-in-BdzPh-clause-edges
graph_verdict-requires-in-BdzPh-clause-edges g c = lemma.edges_up _ _ c.requires.report.edges_are

pub graph_verdict-requires-in-BdzPh-clause-equal : goal.graph_verdict-requires-in-BdzPh-clause-equal
graph_verdict-requires-in-BdzPh-clause-equal g c = lemma.pairs_up _ c.requires.report.pairs_are

pub bucket_verdict-requires-clause-edges : goal.bucket_verdict-requires-clause-edges
bucket_verdict-requires-clause-edges g c = lemma.edges_up _ _ c.requires.report.edges_are

pub bucket_verdict-requires-clause-equal : goal.bucket_verdict-requires-clause-equal
bucket_verdict-requires-clause-equal g c = lemma.pairs_up _ c.requires.report.pairs_are

pub returns-in-Chm-clause-verdict : goal.returns-in-Chm-clause-verdict
returns-in-Chm-clause-verdict g c =
    lemma.whole_verdict (g.P.KeyPass.told c.args.keys.now) c.args.shown.now.algorithm Chm c.args.shown.now.place c.args.shown.now.seed c.ratio_by.result c.args.shown.now.edges.items c.args.shown.now.equal.items c.args.settings.now c.graph_verdict.result
    c.in-Chm.is refl c.requires.report.place_is c.ratio_by.ensures.ratio c.graph_verdict.ensures.verdict

pub returns-in-Bdz-clause-verdict : goal.returns-in-Bdz-clause-verdict
returns-in-Bdz-clause-verdict g c =
    lemma.whole_verdict (g.P.KeyPass.told c.args.keys.now) c.args.shown.now.algorithm Bdz c.args.shown.now.place c.args.shown.now.seed c.ratio_by.result c.args.shown.now.edges.items c.args.shown.now.equal.items c.args.settings.now c.graph_verdict-in-Bdz.result
    c.in-Bdz.is refl c.requires.report.place_is c.ratio_by.ensures.ratio c.graph_verdict-in-Bdz.ensures.verdict

pub returns-in-BdzPh-clause-verdict : goal.returns-in-BdzPh-clause-verdict
returns-in-BdzPh-clause-verdict g c =
    lemma.whole_verdict (g.P.KeyPass.told c.args.keys.now) c.args.shown.now.algorithm BdzPh c.args.shown.now.place c.args.shown.now.seed c.ratio_by.result c.args.shown.now.edges.items c.args.shown.now.equal.items c.args.settings.now c.graph_verdict-in-BdzPh.result
    c.in-BdzPh.is refl c.requires.report.place_is c.ratio_by.ensures.ratio c.graph_verdict-in-BdzPh.ensures.verdict

pub returns-in-Some-clause-verdict : goal.returns-in-Some-clause-verdict
returns-in-Some-clause-verdict g c =
    lemma.bucket_verdict (g.P.KeyPass.told c.args.keys.now) c.args.shown.now.algorithm c.args.shown.now.place c.in-Some.place c.args.shown.now.seed c.args.m c.ratio_by.result c.args.shown.now.edges.items c.args.shown.now.equal.items c.args.settings.now c.bucket_verdict.result
    c.in-Brz.is c.in-Some.is c.requires.counted c.ratio_by.ensures.ratio c.bucket_verdict.ensures.verdict
