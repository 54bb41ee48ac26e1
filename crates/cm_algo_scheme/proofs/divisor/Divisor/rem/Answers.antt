use Rattle.std.proofs.Common.{◌≡◌, ◌∙◌, ℕ, ◌-◌, ◌*◌, ◌/◌, ◌%◌, ◌^◌, inl, inr, ap, arith}
use Rattle.std.proofs.lemmas.Bool.{cases_lt}
use Rattle.cm_algo_scheme.proofs.Remainders.{near_is, left_is, less_is}
use Rattle.cm_algo_scheme.proofs.divisor.Divisor.rem.Goals as goal

pub overflow_sub-left : goal.overflow_sub-left
overflow_sub-left c = (near_is c.args.x c.self.inside.n c.self.inside.scaled c.ranges.x.fits c.self.invariant.0 c.self.invariant.1).within

pub returns-clause-remainder : goal.returns-clause-remainder
returns-clause-remainder c =
    let n : ℕ = c.self.inside.n in
    let q : ℕ = c.args.x * c.self.inside.scaled / 2 ^ 32 in
    let near = near_is c.args.x n c.self.inside.scaled c.ranges.x.fits c.self.invariant.0 c.self.invariant.1 in
    let is : c.min.result ≡ c.args.x % n = elim (cases_lt (c.args.x - q * n) n) [
      | inl less ↦ omega (arith, c.min.ensures, less, c.self.ranges.0.1) ∙ left_is c.args.x n q near.within less
      | inr more ↦ omega (arith, c.min.ensures, more, near.left, c.self.ranges.0.1) ∙ less_is c.args.x n q near more
    ] in
    is ∙ ap (λ (k : ℕ). c.args.x % k) c.self.view_is

pub returns-clause-below : goal.returns-clause-below
returns-clause-below c =
    let near = near_is c.args.x c.self.inside.n c.self.inside.scaled c.ranges.x.fits c.self.invariant.0 c.self.invariant.1 in
    omega (arith, c.min.ensures, near.left, c.self.view_is, c.self.ranges.0.1)
