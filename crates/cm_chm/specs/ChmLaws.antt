-- Lemmas about CHM's rule: it keeps the laws of a rule.
use Rattle.std.specs.Prelude.{◌≡◌, ◌≢◌, ℕ, zero, suc, ◌+◌, ◌*◌, ◌/◌, ◌%◌, ◌<◌, ◌≤◌, List, [], ◌∷◌, length, slice_index, refl, All, AllPairs}
use Rattle.std.proofs.Common.{arith, ap, sym, ◌∙◌, ◌⊎◌, inl, inr, cond, eqb, true, false, Bool}
use Rattle.std.proofs.lemmas.Nat.{mod_below, div_below}
use Rattle.std.proofs.Math.Nat.{mod-eq_of_lt, zero-mod, mod_self, mul-le-mul_left, mul_comm}
use Rattle.std.proofs.lemmas.Bool.{cases_eq, cases_lt, eq-eqb, ne_eqb}
use Rattle.cm_spec.specs.Chm.{chm_second, chm_edge, chm_rule}
use Rattle.cm_spec.specs.Graph.{IsEdge}
use Rattle.cm_spec.specs.Rule.{IsSize, IsRule}
use Rattle.cm_spec.specs.declared.limits.TheConstants.{MAX_EDGES, MAX_VERTICES}

size_least : (n : ℕ) → IsSize chm_rule n → 2 ≤ n
size_least n s = omega (arith, s.is)

size_most : (n : ℕ) → IsSize chm_rule n → n ≤ MAX_VERTICES
size_most n s =
    let most : s.ratio * s.keys ≤ 671088640000000 = go (mul-le-mul s.ratio s.keys s.within.1 s.many.1) in
    let few : (s.ratio * s.keys + 999999) / 1000000 < MAX_VERTICES = div_below (s.ratio * s.keys + 999999) 1000000 MAX_VERTICES (omega arith) (omega arith) in
    omega (arith, s.is) where
      go : {x : ℕ} → x ≤ 10000000 * MAX_EDGES → x ≤ 671088640000000
      go h = omega arith

      mul-le-mul : (a b : ℕ) → a ≤ 10000000 → b ≤ MAX_EDGES → a * b ≤ 10000000 * MAX_EDGES
      mul-le-mul a b l m = omega (arith, mul-le-mul_left a m, mul-le-mul_left MAX_EDGES l, mul_comm a MAX_EDGES)

next_other : (a n : ℕ) → a < n → 2 ≤ n → (a + 1) % n ≢ a
next_other a n l h e = go (cases_lt (a + 1) n) where
  go : (a + 1 < n) ⊎ (n ≤ a + 1) → ⊥
  go (inl low) = absurd (omega (arith, mod-eq_of_lt low))
  go (inr high) =
      let s : a + 1 ≡ n = omega arith in
      let z : (a + 1) % n ≡ 0 = ap (λ x. x % n) s ∙ mod_self n in
      absurd (omega arith)

second_below : (a b n : ℕ) → a < n → b < n → 2 ≤ n → chm_second a b n < n
second_below a b n l k h = go (eqb a b) where
  go : (t : Bool) → cond {A = ℕ} t ((a + 1) % n) b < n
  go true = mod_below (a + 1) n (omega arith)
  go false = k

second_other : (a b n : ℕ) → a < n → b < n → 2 ≤ n → a ≢ chm_second a b n
second_other a b n l k h e = go (cases_eq a b) where
  go : (a ≡ b) ⊎ (a ≡ b → ⊥) → ⊥
  go (inl same) =
      let t : eqb a b ≡ true = eq-eqb a b same in
      let is : chm_second a b n ≡ (a + 1) % n = rw t refl in
      next_other a n l h (sym is ∙ sym e)
  go (inr other) =
      let f : eqb a b ≡ false = ne_eqb a b other in
      let is : chm_second a b n ≡ b = rw f refl in
      other (e ∙ is)

pair_is_edge : (a b n : ℕ) → a < n → b < n → a ≢ b → IsEdge n (a ∷ b ∷ [])
pair_is_edge a b n l k ne = (in_pair, distinct) where
  in_pair : All (λ v. v < n) (a ∷ b ∷ [])
  in_pair zero d h = l
  in_pair (suc zero) d h = k
  in_pair (suc (suc i)) d h = absurd (omega arith)

  distinct : AllPairs (λ u v. u ≢ v) (a ∷ b ∷ [])
  distinct zero zero d i j e = absurd (omega arith)
  distinct zero (suc zero) d i j e = ne e
  distinct zero (suc (suc k)) d i j e = absurd (omega arith)
  distinct (suc i) j d h l e = absurd (omega arith)

chm_ends : (w : List ℕ) (n : ℕ) → IsSize chm_rule n → (length (chm_edge w n) ≡ 2) × IsEdge n (chm_edge w n)
chm_ends w n s =
    let two : 2 ≤ n = size_least n s in
    let a : slice_index w 0 % n < n = mod_below (slice_index w 0) n (omega arith) in
    let b : slice_index w 1 % n < n = mod_below (slice_index w 1) n (omega arith) in
    (refl, pair_is_edge (slice_index w 0 % n) (chm_second (slice_index w 0 % n) (slice_index w 1 % n) n) n a (second_below _ _ n a b two) (second_other _ _ n a b two))

pub chm_is_rule : IsRule 2 chm_rule
chm_is_rule = record {
  two_or_three = (omega arith, omega arith);
  few = size_most;
  ends = chm_ends;
  target_below = λ m i p t many l k. l;
  modulus_within = λ m many. omega arith;
  idle_below = λ m many. omega (arith, many.0);
  idle_none = λ m many. zero-mod m;
}
