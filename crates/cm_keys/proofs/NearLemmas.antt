-- The first place of a byte, as the head of its places.
use Rattle.std.proofs.Common.{◌≡◌, ◌∙◌, ℕ, zero, suc, ◌+◌, ◌-◌, List, [], ◌∷◌, length, ap, sym, arith, refl, subst, Option, None, Some, Bool, true, false, if◌then◌else◌, ⊎_elim}
use Rattle.std.specs.Prelude.{slice_index}
use Rattle.std.proofs.Math.Nat.{eq-or-lt_of_le}
use Rattle.memchr.specs.Find.{IsFirstByte, NoneBefore, Nowhere, Passes, TakesFirst, places, places_from}

-- the first place from i on, where it passes and where it doesn't
first_of : (test : ℕ → Bool) (hay : List ℕ) (i n k : ℕ) (ks later : List ℕ) (t : Bool) → test (slice_index hay i) ≡ t
    → (later ≡ k ∷ ks → NoneBefore (Passes test hay) (i + 1) (i + 1 + n) k × Passes test hay k)
    → (if t then i ∷ later else later) ≡ k ∷ ks → NoneBefore (Passes test hay) i (i + suc n) k × Passes test hay k
first_of test hay i n k ks later true is next e =
    let same : i ≡ k = grind (arith, e) in (
      record { low = omega (arith, same); high = omega (arith, same); before = λ j low high. absurd (omega (arith, same, low, high)) },
      subst (λ (at : ℕ). Passes test hay at) same is,
    )
first_of test hay i n k ks later false is next e =
    let there = next e in (
      record {
        low = omega (arith, there.0.low);
        high = omega (arith, there.0.high);
        before = λ j low high. ⊎_elim (λ same. subst (λ (at : ℕ). ¬ Passes test hay at) same (λ yes. cc (is, yes))) (λ more. there.0.before j (omega (arith, more)) high) (eq-or-lt_of_le low);
      },
      there.1,
    )

first_from : (test : ℕ → Bool) (hay : List ℕ) (i n k : ℕ) (ks : List ℕ) → places_from test hay i n ≡ k ∷ ks → NoneBefore (Passes test hay) i (i + n) k × Passes test hay k
unfolding places_from
first_from test hay i zero k ks e = absurd (grind (arith, e))
first_from test hay i (suc n) k ks e = first_of test hay i n k ks (places_from test hay (i + 1) n) (test (slice_index hay i)) refl (first_from test hay (i + 1) n k ks) e

from_start : (n : ℕ) → n - 0 ≡ n
from_start n = omega arith

to_end : (n : ℕ) → 0 + n ≡ n
to_end n = omega arith

first_place : (test : ℕ → Bool) (hay : List ℕ) (k : ℕ) (ks : List ℕ) → places test hay ≡ k ∷ ks → NoneBefore (Passes test hay) 0 (length hay) k × Passes test hay k
first_place test hay k ks e = subst (λ (to : ℕ). NoneBefore (Passes test hay) 0 to k × Passes test hay k) (to_end (length hay)) (first_from test hay 0 (length hay) k ks (ap (places_from test hay 0) (sym (from_start (length hay))) ∙ e))

none_of : (test : ℕ → Bool) (hay : List ℕ) (i n : ℕ) (later : List ℕ) (t : Bool) → test (slice_index hay i) ≡ t
    → (later ≡ [] → Nowhere (Passes test hay) (i + 1) (i + 1 + n)) → (if t then i ∷ later else later) ≡ [] → Nowhere (Passes test hay) i (i + suc n)
none_of test hay i n later true is next e = absurd (grind (arith, e))
none_of test hay i n later false is next e = λ j low high.
    ⊎_elim (λ same. subst (λ (at : ℕ). ¬ Passes test hay at) same (λ yes. cc (is, yes))) (λ more. next e j (omega (arith, more)) (omega (arith, high))) (eq-or-lt_of_le low)

none_from : (test : ℕ → Bool) (hay : List ℕ) (i n : ℕ) → places_from test hay i n ≡ [] → Nowhere (Passes test hay) i (i + n)
unfolding places_from
none_from test hay i zero e = λ j low high. absurd (omega (arith, low, high))
none_from test hay i (suc n) e = none_of test hay i n (places_from test hay (i + 1) n) (test (slice_index hay i)) refl (none_from test hay (i + 1) n) e

no_place : (test : ℕ → Bool) (hay : List ℕ) → places test hay ≡ [] → Nowhere (Passes test hay) 0 (length hay)
no_place test hay e = subst (λ (to : ℕ). Nowhere (Passes test hay) 0 to) (to_end (length hay)) (none_from test hay 0 (length hay) (ap (places_from test hay 0) (sym (from_start (length hay))) ∙ e))

-- what an iterator over the places gives first
pub first_taken : (test : ℕ → Bool) (hay old new : List ℕ) (r : Option ℕ) → old ≡ places test hay → TakesFirst old r new → IsFirstByte test hay r
first_taken test hay old new None is takes = no_place test hay (sym is ∙ takes.0)
first_taken test hay old new (Some k) is takes = first_place test hay k new (sym is ∙ takes)
