-- Lemmas about the rule of filters: it keeps the laws of a rule, since its graph is that of BDZ.
use Rattle.std.specs.Prelude.{ℕ, ◌^◌, ◌<◌, ◌≤◌}
use Rattle.std.proofs.Common.{arith, lit<}
use Rattle.std.proofs.Math.Nat.{pow-le-pow_right, zero-mod}
use Rattle.std.proofs.lemmas.Nat.{mod_below, pow_pos}
use Rattle.cm_bdz.specs.BdzLaws.{bdz_is_rule}
use Rattle.cm_bits.specs.declared.TheConstants.{MAX_FIELD_BOUND}
use Rattle.cm_filter.specs.Filters.{IsFingerprint, filter_rule}
use Rattle.cm_spec.specs.Bdz.{bdz_rule}
use Rattle.cm_spec.specs.Rule.{IsRule, IsSize}

-- its sizes are those of BDZ
pub as_bdz : (w n : ℕ) → IsSize (filter_rule w) n → IsSize bdz_rule n
as_bdz w n s = record { keys = s.keys; ratio = s.ratio; many = s.many; within = s.within; is = s.is }

pub filter_is_rule : (w : ℕ) → IsRule 3 (filter_rule w)
filter_is_rule w =
    let some : 0 < 2 ^ w = pow_pos w in record {
      two_or_three = (omega arith, omega arith);
      few = λ n s. bdz_is_rule.few n (as_bdz w n s);
      ends = λ hashed n s. bdz_is_rule.ends hashed n (as_bdz w n s);
      target_below = λ m i p t many l k. mod_below t (2 ^ w) some;
      modulus_within = λ m many. omega arith;
      idle_below = λ m many. some;
      idle_none = λ m many. zero-mod (2 ^ w);
    }

-- the bound of cells
pub bound_most : (w : ℕ) → IsFingerprint w → 2 ^ w ≤ 65536
bound_most w is = let most : 2 ^ w ≤ 2 ^ 16 = pow-le-pow_right (lit< tt) is.1 in most

-- a table serves it
pub bound_fits : (w : ℕ) → IsFingerprint w → (1 ≤ 2 ^ w) × (2 ^ w ≤ MAX_FIELD_BOUND)
bound_fits w is = (pow_pos w, omega (arith, bound_most w is))
