use Rattle.std.proofs.Common.{arith, ◌≡◌, ◌≤◌, ℕ, ◌+◌, ◌*◌, List, length, sym, subst, ap, ◌∙◌}
use Rattle.std.proofs.lemmas.Result.{IfErr-weaker, IfOk-weaker}
use Rattle.cm_spec.specs.Cells.{plan_of, cells_of}
use Rattle.cm_spec.specs.Rule.{IsCount, IsSize}
use Rattle.cm_algo_seeds.specs.OneSeedLaws.{IsHashed, hashed_from, given_from, graph_from}
use Rattle.cm_algo_seeds.specs.TagLaws.{kept_or_zero}
use Rattle.cm_algo_seeds.proofs.seeds.attempt.Goals as goal

pub with_capacity-requires : goal.with_capacity-requires
with_capacity-requires g c =
    let size : IsSize (g.S.Scheme.rule c.args.scheme.now) c.size.result = record { keys = c.args.m; ratio = c.args.c; many = (c.requires.many.0, omega (arith, c.requires.many.1)); within = c.requires.ratio; is = c.size.ensures.size } in
    let law = g.met.S.Scheme.laws c.args.scheme.now in
    (omega (arith, law.two_or_three.1), (law.two_or_three, (law.few c.size.result size, omega (arith, c.requires.many.1))))

pub solve-requires : goal.solve-requires
solve-requires g c =
    let many : IsCount (length c.hash_all.new.edges.edges) = (omega (arith, c.in_ok-hash_all.ensures.long, c.requires.many), omega (arith, c.in_ok-hash_all.ensures.long, c.requires.many)) in
    (omega (arith, (g.met.S.Scheme.laws c.args.scheme.now).two_or_three.1), (omega arith, many))

pub returns-in_err-solved-clause-steps : goal.returns-in_err-solved-clause-steps
returns-in_err-solved-clause-steps g c = subst (λ (m : ℕ). c.solve.new.steps ≤ c.args.steps.now + 8 * (g.row.K * m)) c.in_ok-hash_all.ensures.long c.solve.ensures.steps

pub returns-clause-bound : goal.returns-clause-bound
returns-clause-bound g c =
    let r = g.S.Scheme.rule c.args.scheme.now in
    let size : c.in_ok-edges.edges.vertices ≡ r.size c.args.m c.args.c = c.in_ok-edges.ensures.vertices ∙ c.size.ensures.size in
    IfOk-weaker c.in_ok-solved.solved _ _ (λ t is. (is.bound_is ∙ ap r.bound c.in_ok-hash_all.ensures.long, is.solved.long ∙ (c.hash_all.ensures.vertices ∙ size))) c.in_ok-solved.ensures.solved

pub returns-clause-busy : goal.returns-clause-busy
returns-clause-busy g c =
    let r = g.S.Scheme.rule c.args.scheme.now in
    let long = c.in_ok-hash_all.ensures.long in
    IfOk-weaker c.in_ok-solved.solved _ _ (λ t is low. is.solved.busy (subst (λ (m : ℕ). r.modulus m ≤ r.idle) (sym long) low) ∙ long) c.in_ok-solved.ensures.solved

pub returns-clause-made : goal.returns-clause-made
returns-clause-made g c =
    let r = g.S.Scheme.rule c.args.scheme.now in
    let size : c.in_ok-edges.edges.vertices ≡ r.size c.args.m c.args.c = c.in_ok-edges.ensures.vertices ∙ c.size.ensures.size in
    IfOk-weaker c.in_ok-solved.solved _ _ (λ t solution told is.
    (let h : IsHashed r told.keys c.args.m c.args.c c.args.seed c.hash_all.new.edges.edges c.hash_all.new.tags.items =
    hashed_from r told.keys c.args.m c.args.c c.args.seed c.in_ok-edges.edges.vertices c.hash_all.new.edges.edges c.hash_all.new.tags.items
    size (c.in_ok-hash_all.ensures.edges told is) (kept_or_zero r c.args.seed told.keys g.S.Scheme.KEEPS_TAGS c.hash_all.new.tags.items (λ b. c.in_ok-hash_all.ensures.tags b told is) c.in_ok-hash_all.ensures.untagged (g.met.S.Scheme.untagged c.args.scheme.now)) c.in_ok-hash_all.ensures.long in
    given_from r told.keys c.args.m c.args.c c.args.seed c.hash_all.new.edges.vertices c.hash_all.new.edges.edges c.hash_all.new.tags.items (g.S.Table.Cells.cells t)
    (c.hash_all.ensures.vertices ∙ size) h solution.empty
    (solution.cells_are ∙ ap (λ (ts : List ℕ). cells_of (plan_of r c.hash_all.new.edges.vertices c.hash_all.new.edges.edges ts)) c.deref.ensures.value))) c.in_ok-solved.ensures.solved

pub returns-clause-peeled : goal.returns-clause-peeled
returns-clause-peeled g c = c.in_ok-solved.ensures.peeled

pub returns-clause-some : goal.returns-clause-some
returns-clause-some g c = c.in_ok-solved.ensures.some

pub returns-clause-long : goal.returns-clause-long
returns-clause-long g c = IfErr-weaker c.in_ok-solved.solved _ _ (λ left is. ap length is ∙ c.in_ok-hash_all.ensures.long) c.in_ok-solved.ensures.left

pub returns-clause-left : goal.returns-clause-left
returns-clause-left g c =
    let r = g.S.Scheme.rule c.args.scheme.now in
    let size : c.in_ok-edges.edges.vertices ≡ r.size c.args.m c.args.c = c.in_ok-edges.ensures.vertices ∙ c.size.ensures.size in
    IfErr-weaker c.in_ok-solved.solved _ _ (λ left is told told_is.
    is ∙ graph_from r told.keys c.args.m c.args.c c.args.seed c.in_ok-edges.edges.vertices c.hash_all.new.edges.edges size (c.in_ok-hash_all.ensures.edges told told_is) c.in_ok-hash_all.ensures.long) c.in_ok-solved.ensures.left

pub returns-clause-steps : goal.returns-clause-steps
returns-clause-steps g c = subst (λ (m : ℕ). c.solve.new.steps ≤ c.args.steps.now + 8 * (g.row.K * m)) c.in_ok-hash_all.ensures.long c.solve.ensures.steps
