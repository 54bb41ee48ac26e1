use Rattle.std.proofs.Common.{arith, rules, ◌≡◌, ◌≢◌, ℕ, [], length, refl, sym, subst, ◌∙◌, get_or}
use Rattle.cm_spec.specs.Built.{graph_of}
use Rattle.cm_spec.specs.Rounds.{rest_of}
use Rattle.cm_algo_seeds.specs.CoredLaws.{leaves_some}
use Rattle.cm_algo_seeds.specs.OneSeedLaws.{steps_err, steps_more, steps_later, steps_on, steps_all, chosen_at, first_at, left_more}
use Rattle.cm_algo_seeds.proofs.seeds.build_later.Goals as goal

pub loop-i-init : goal.loop-i-init
loop-i-init g c = record {
  told = refl;
  quiet = refl;
  steps = omega arith;
  left = λ told is j low.
      let zero : j ≡ 0 = omega (arith, low) in
      subst (λ (j : ℕ). rest_of (graph_of (g.S.Scheme.rule c.args.scheme.now) told.keys c.args.c (get_or c.args.seeds.now j 0)) ≢ []) (sym zero) (c.requires.left told is);
}

pub returns-in_err-cells-clause-steps : goal.returns-in_err-cells-clause-steps
returns-in_err-cells-clause-steps g c = λ before spent. steps_err g.row.K c.args.m c.args.m before c.loop-i.steps _ c.loop-i.i _ (steps_later _ _ _ _ _ spent c.loop-i.invariant.steps) c.attempt.ensures.steps refl c.loop-i-test.true

pub returns-in-Ok-clause-made : goal.returns-in-Ok-clause-made
returns-in-Ok-clause-made g c =
    let bound = rw c.in-Ok.is at c.in_ok-cells.ensures.bound in
    let busy = rw c.in-Ok.is at c.in_ok-cells.ensures.busy in
    record { many = (c.requires.many.0, c.requires.many.1, refl); sizes = bound; busy = busy; chosen = search rules }

pub returns-in-Ok-clause-first : goal.returns-in-Ok-clause-first
returns-in-Ok-clause-first g c = λ before spent told is.
    let r = g.S.Scheme.rule c.args.scheme.now in
    let made = rw c.in-Ok.is at c.in_ok-cells.ensures.made in
    let given = made told (c.loop-i.invariant.told ∙ is) in
    let left = c.loop-i.invariant.left told is in
    record {
      place = c.loop-i.i;
      many = given.0;
      chosen = chosen_at r told.keys c.args.c c.loop-i.i c.args.seeds.now c.loop-i-test.true given.1.0 left;
      first = first_at r told.keys c.args.c c.loop-i.i c.args.seeds.now c.loop-i-test.true given.1.0 left;
      cells_are = given.1.1;
      steps = steps_more g.row.K c.args.m (length told.keys) before c.loop-i.steps c.attempt.new.steps c.loop-i.i (steps_later _ _ _ _ _ spent c.loop-i.invariant.steps) c.attempt.ensures.steps given.0;
    }

pub returns-in-Ok-clause-steps : goal.returns-in-Ok-clause-steps
returns-in-Ok-clause-steps g c = λ before spent. steps_err g.row.K c.args.m c.args.m before c.loop-i.steps _ c.loop-i.i _ (steps_later _ _ _ _ _ spent c.loop-i.invariant.steps) c.attempt.ensures.steps refl c.loop-i-test.true

pub loop-i-preserved : goal.loop-i-preserved
loop-i-preserved g c =
    let r = g.S.Scheme.rule c.args.scheme.now in
    let before = c.loop-i.invariant in
    let i : ℕ = c.loop-i.i in
    let left = rw c.in-Err.is at c.in_ok-cells.ensures.left in
    record {
      told = search rules;
      quiet = search rules;
      steps = steps_on g.row.K c.args.m _ _ _ i before.steps c.attempt.ensures.steps;
      left = λ told is j low.
          left_more (λ (j : ℕ). rest_of (graph_of r told.keys c.args.c (get_or c.args.seeds.now j 0)) ≢ []) i j (before.left told is)
          (leaves_some r told.keys c.args.c (get_or c.args.seeds.now i 0) c.in-Err.field-0.edges.edges c.in-Err.field-0.peeled.rest (left told (before.told ∙ is)) (rw c.in-Err.is at c.in_ok-cells.ensures.peeled) (rw c.in-Err.is at c.in_ok-cells.ensures.some)) low;
    }

pub returns-clause-steps : goal.returns-clause-steps
returns-clause-steps g c = λ before spent. steps_all g.row.K c.args.m _ _ before c.loop-i.i _ spent c.loop-i.invariant.steps (omega (arith, c.requires.some, c.loop-i.auto.i-end))

pub returns-clause-none : goal.returns-clause-none
returns-clause-none g c = λ told is j low. c.loop-i.invariant.left told is j (omega (arith, low, c.loop-i-test.false))
