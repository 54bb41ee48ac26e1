-- Each function has a span, and names have their length.
use Rattle.std.proofs.Common.{◌≡◌, ℕ, ◌+◌, ◌*◌, ◌≤◌, ◌/◌, arith, length, List, refl, Bool, true, false, ◌&&◌, nat_lt, nat_le}
use Rattle.std.specs.Prelude.{IsTrue}
use Rattle.std.proofs.lemmas.Bool.{leb-true}
use Rattle.cm_dump_items.specs.ItemLaws.{lt_of}
use Rattle.cm_func.specs.Functions.{IsFunction, span_by}
use Rattle.cm_func.specs.declared.function.Func.{Func}
use Rattle.cm_func.specs.declared.function.Func.TheVariants as func
use Rattle.cm_shards_join.specs.Taking.{is_name}
use Rattle.cm_shards_manifest.specs.declared.limits.TheConstants.{MAX_NAME}
use Rattle.cm_spec.specs.Bdz.{third_of}

third_some : (q : ℕ) → 1 ≤ third_of q
third_some q = grind arith

pub span_some : (f : Func) → IsFunction f → 1 ≤ span_by f
span_some (func.Chm f) is = is.keys.0
span_some (func.Bdz f) is = is.keys.0
span_some (func.BdzPh f) is = omega (arith, is.size, third_some ((f.ratio * f.keys + 2999999) / 3000000))
span_some (func.Brz f) is = is.keys.0

pub name_size : (name : List ℕ) → IsTrue (is_name name) → (1 ≤ length name) × (length name ≤ MAX_NAME)
name_size name is = let parts = both_of (nat_lt 0 (length name)) (nat_le (length name) MAX_NAME) is in (lt_of 0 (length name) parts.0, leb-true (length name) MAX_NAME parts.1)
  where
    both_of : (s t : Bool) → IsTrue (s && t) → (s ≡ true) × (t ≡ true)
    both_of true true is = (refl, refl)
    both_of true false is = absurd (grind (arith, is))
    both_of false t is = absurd (grind (arith, is))
