use Rattle.std.proofs.Common.{arith, ◌∙◌, subst, sym}
use Rattle.cm_algo_seeds.specs.EqualKeysLaws.{equal_keys_meet}
use Rattle.cm_algo_seeds.specs.Fails.{ShowsCore}
use Rattle.cm_judge_core.proofs.Graphs.{core_seen}
use Rattle.cm_judge_core.proofs.two_core.seen_by_core.Goals as goal
use Rattle.cm_judge_core.specs.Walks.{graph_judged}
use Rattle.cm_witness_gather.specs.Cores.{EqualKeysMeet}

pub certify-requires : goal.certify-requires
certify-requires g c =
    let left = rw c.in-Err.is at c.in_ok-attempt.ensures.left in (
      omega arith,
      (
        rw c.in-Err.is at c.in_ok-attempt.ensures.peeled,
        λ told is. subst (EqualKeysMeet told.keys) (sym (left told (sym c.attempt.ensures.told ∙ is))) (equal_keys_meet (g.S.Scheme.rule c.args.scheme.now) told.keys c.args.c c.args.shown.now.seed),
      ),
    )

pub returns-clause-reason : goal.returns-clause-reason
returns-clause-reason g c = λ told is.
    let r = g.S.Scheme.rule c.args.scheme.now in
    let left = rw c.in-Err.is at c.in_ok-attempt.ensures.left in
    let made = c.in_ok-made-in-Err.made in
    let shows : ShowsCore r told.keys c.args.c c.args.shown.now.seed made = c.in_ok-made-in-Err.ensures.shows told (c.attempt.ensures.told ∙ is) c.args.c (left told is) in
    core_seen (graph_judged r told.keys c.args.c c.args.shown.now.seed) c.core_fault-in-Err.result _ _ c.args.shown.now.edges.items _ _ c.args.shown.now.equal.items (c.requires.rise told is)
    (c.deref-in-Err.ensures.value ∙ shows.edges) (c.deref-in-Err-2.ensures.value ∙ shows.equal) c.deref-in-Err-3.ensures.value c.deref-in-Err-4.ensures.value c.core_fault-in-Err.ensures.reason
