use Rattle.std.proofs.Common.{arith, rules, ℕ, ◌+◌, ◌*◌, ◌≤◌, length, refl, sym, subst, ◌∙◌, get_or}
use Rattle.cm_io.specs.PassFaults.{HasPassed}
use Rattle.cm_algo_seeds.specs.CoredLaws.{handed_on, leaves_some, pass_fails}
use Rattle.cm_algo_seeds.specs.Fails.{build_fault_of}
use Rattle.cm_algo_seeds.specs.declared.fault.BuildFault.TheVariants as build_fault
use Rattle.cm_algo_seeds.specs.OneSeedLaws.{no_keys, steps_more, chosen_at, first_at}
use Rattle.cm_algo_seeds.proofs.seeds.build_first.Goals as goal

pub returns-then-m-eq0-clause-fault : goal.returns-then-m-eq0-clause-fault
returns-then-m-eq0-clause-fault g c = λ told is.
    let a = c.in_ok-m.ensures.all told is in
    (no_keys told.keys (a.0 ∙ c.if-m-eq0.true), a.1)

pub returns-in_err-m-clause-form : goal.returns-in_err-m-clause-form
returns-in_err-m-clause-form g c = handed_on c.from_residual.result (build_fault.Key c.in_err-m.field-0.0) _ c.from_residual.ensures.1 (record { failed = c.in_err-m.ensures.failed; numbers = tt; counted = tt; certificate = tt })

pub returns-then-m-eq0-clause-form : goal.returns-then-m-eq0-clause-form
returns-then-m-eq0-clause-form g c = record { failed = tt; numbers = c.in_ok-m.ensures.given ∙ c.if-m-eq0.true; counted = c.in_ok-m.ensures.at_end; certificate = tt }

pub returns-in_err-cells-clause-form : goal.returns-in_err-cells-clause-form
returns-in_err-cells-clause-form g c =
    let P = g.P.KeyPass in
    let fault = c.in_err-cells.field-0.0 in
    let counted : HasPassed P.at_end P.place c.in_ok-m.m = (c.count_all.new.keys, c.in_ok-m.ensures.at_end, c.in_ok-m.ensures.given) in
    handed_on c.from_residual-in_err-cells.result (build_fault_of fault) _ c.from_residual-in_err-cells.ensures.1
    (pass_fails P c.attempt.new.keys c.in_ok-m.m _ _ fault (omega (arith, c.if-m-eq0.false)) counted c.in_err-cells.ensures.failed c.in_err-cells.ensures.changed)

pub returns-in_err-cells-clause-steps : goal.returns-in_err-cells-clause-steps
returns-in_err-cells-clause-steps g c = λ told is. subst (λ (m : ℕ). c.attempt.new.steps ≤ c.args.steps.now + 8 * (g.row.K * m)) (sym (c.in_ok-m.ensures.all told is).0) c.attempt.ensures.steps

pub returns-in-Ok-clause-made : goal.returns-in-Ok-clause-made
returns-in-Ok-clause-made g c =
    let bound = rw c.in-Ok.is at c.in_ok-cells.ensures.bound in
    let busy = rw c.in-Ok.is at c.in_ok-cells.ensures.busy in
    record { many = (omega (arith, c.if-m-eq0.false), c.in_ok-m.ensures.few, refl); sizes = bound; busy = busy; chosen = search rules }

pub returns-in-Ok-clause-first : goal.returns-in-Ok-clause-first
returns-in-Ok-clause-first g c = λ told is.
    let r = g.S.Scheme.rule c.args.scheme.now in
    let a = c.in_ok-m.ensures.all told is in
    let made = rw c.in-Ok.is at c.in_ok-cells.ensures.made in
    let given = made told (c.in_ok-m.ensures.told ∙ is) in (
      a.1,
      record {
        place = 0;
        many = sym a.0;
        chosen = chosen_at r told.keys c.args.c 0 c.args.seeds.now c.requires.some given.1.0 (λ j low. absurd (omega (arith, low)));
        first = first_at r told.keys c.args.c 0 c.args.seeds.now c.requires.some given.1.0 (λ j low. absurd (omega (arith, low)));
        cells_are = given.1.1;
        steps = steps_more g.row.K c.in_ok-m.m (length told.keys) c.args.steps.now c.args.steps.now c.attempt.new.steps 0 (omega arith) c.attempt.ensures.steps (sym a.0);
      },
    )

pub returns-in-Ok-clause-steps : goal.returns-in-Ok-clause-steps
returns-in-Ok-clause-steps g c = λ told is. subst (λ (m : ℕ). c.attempt.new.steps ≤ c.args.steps.now + 8 * (g.row.K * m)) (sym (c.in_ok-m.ensures.all told is).0) c.attempt.ensures.steps

pub returns-in-Err-clause-left : goal.returns-in-Err-clause-left
returns-in-Err-clause-left g c = λ told is.
    let r = g.S.Scheme.rule c.args.scheme.now in
    let a = c.in_ok-m.ensures.all told is in
    let left = rw c.in-Err.is at c.in_ok-cells.ensures.left in
    let are = left told (c.in_ok-m.ensures.told ∙ is) in
    record {
      ended = a.1;
      many = rw c.in-Err.is at c.in_ok-cells.ensures.long ∙ sym a.0;
      is = are;
      left = leaves_some r told.keys c.args.c (get_or c.args.seeds.now 0 0) c.in-Err.left.edges.edges c.in-Err.left.peeled.rest are (rw c.in-Err.is at c.in_ok-cells.ensures.peeled) (rw c.in-Err.is at c.in_ok-cells.ensures.some);
    }

pub returns-in-Err-clause-steps : goal.returns-in-Err-clause-steps
returns-in-Err-clause-steps g c = λ told is. subst (λ (m : ℕ). c.attempt.new.steps ≤ c.args.steps.now + 8 * (g.row.K * m)) (sym (c.in_ok-m.ensures.all told is).0) c.attempt.ensures.steps
