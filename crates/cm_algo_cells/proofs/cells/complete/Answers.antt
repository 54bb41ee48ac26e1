use Rattle.std.proofs.Common.{◌≡◌, ◌⊎◌, ◌∙◌, ℕ, ◌+◌, ◌-◌, ◌%◌, ◌<◌, ◌≤◌, inl, inr, ap, arith}
use Rattle.std.proofs.lemmas.Bool.{cases_lt}
use Rattle.cm_spec.specs.Cells.{completing}
use Rattle.cm_algo_cells.proofs.Completing.{from_above, from_below}
use Rattle.cm_algo_cells.proofs.cells.complete.Goals as goal

pub returns-clause-value : goal.returns-clause-value
unfolding completing
returns-clause-value c = go (cases_lt c.args.target c.rem_wide-left.result) ∙ ap (λ (k : ℕ). (c.args.target + (c.args.modulus.now - k)) % c.args.modulus.now) c.rem_wide-left.ensures.remainder where
  go : (c.args.target < c.rem_wide-left.result) ⊎ (c.rem_wide-left.result ≤ c.args.target) → c.min.result ≡ (c.args.target + (c.args.modulus.now - c.rem_wide-left.result)) % c.args.modulus.now
  go (inl under) = omega (arith, c.min.ensures, c.value.ensures.value, c.rem_wide-left.ensures.below, under, c.ranges.target.fits, from_below c.args.modulus.now c.args.target c.rem_wide-left.result c.rem_wide-left.ensures.below under)
  go (inr over) = omega (arith, c.min.ensures, c.value.ensures.value, c.rem_wide-left.ensures.below, c.requires.target, over, c.ranges.target.fits, from_above c.args.modulus.now c.args.target c.rem_wide-left.result c.requires.target over)
