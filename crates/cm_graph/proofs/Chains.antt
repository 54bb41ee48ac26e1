-- What a write does to a chain.
use Rattle.std.proofs.Common.{◌≡◌, ◌≢◌, ◌⊎◌, ℕ, zero, suc, ◌+◌, ◌<◌, ◌≤◌, cond, eqb, List, [], ◌∷◌, length, get_or, set, get_or-set_other, get_or-set_same, sym, refl, ap, ◌∙◌, subst, inl, inr, arith}
use Rattle.std.specs.List.{All}
use Rattle.std.proofs.lemmas.Bool.{cases_eq, eq-eqb, ne_eqb, cond-true, cond-false}
use Rattle.std.proofs.lemmas.List.Sums.{sum_by-cons}
use Rattle.cm_graph.specs.Chained.{chain_of, before_in, times}

pub times-cons : (q p : ℕ) (ps : List ℕ) → times q (p ∷ ps) ≡ cond (eqb p q) 1 0 + times q ps
times-cons q p ps = sum_by-cons (λ x. cond (eqb x q) 1 0) p ps

pub one_same : (p q : ℕ) → p ≡ q → cond {A = ℕ} (eqb p q) 1 0 ≡ 1
one_same p q e = cond-true _ _ _ (eq-eqb p q e)

pub one_other : (p q : ℕ) → p ≢ q → cond {A = ℕ} (eqb p q) 1 0 ≡ 0
one_other p q e = cond-false _ _ _ (ne_eqb p q e)

-- a write outside a chain leaves it
pub chain_kept : (next : List ℕ) (h n at y : ℕ) → times at (chain_of next h n) ≡ 0 → chain_of (set next at y) h n ≡ chain_of next h n
chain_kept next h zero at y none = refl
chain_kept next h (suc n) at y none =
    let c = times-cons at h (chain_of next (get_or next h 0) n) in
    let ne : h ≢ at = (λ same. absurd (omega (arith, c, none, one_same h at same))) in
    let keep : get_or (set next at y) h 0 ≡ get_or next h 0 = get_or-set_other next at h y 0 ne in
    rw keep (ap (λ r. h ∷ r) (chain_kept next (get_or next h 0) n at y (omega (arith, c, none))))

-- what stands before one in a list
pub before_same : (q a b : ℕ) (rest : List ℕ) → b ≡ q → before_in q (a ∷ b ∷ rest) ≡ a
before_same q a b rest e = cond-true _ _ _ (eq-eqb b q e)

pub before_other : (q a b : ℕ) (rest : List ℕ) → b ≢ q → before_in q (a ∷ b ∷ rest) ≡ before_in q (b ∷ rest)
before_other q a b rest e = cond-false _ _ _ (ne_eqb b q e)

pub before_is_there : (q a : ℕ) (rest : List ℕ) → 1 ≤ times (before_in q (a ∷ rest)) (a ∷ rest)
before_is_there q a [] = omega (arith, times-cons a a [], one_same a a refl)
before_is_there q a (b ∷ rest) = go (cases_eq b q) (before_is_there q b rest) where
  go : (b ≡ q) ⊎ (b ≢ q) → 1 ≤ times (before_in q (b ∷ rest)) (b ∷ rest) → 1 ≤ times (before_in q (a ∷ b ∷ rest)) (a ∷ b ∷ rest)
  go (inl same) ih = omega (arith, ap (λ p. times p (a ∷ b ∷ rest)) (before_same q a b rest same), times-cons a a (b ∷ rest), one_same a a refl)
  go (inr other) ih = omega (arith, ap (λ p. times p (a ∷ b ∷ rest)) (before_other q a b rest other), ih, times-cons (before_in q (b ∷ rest)) a (b ∷ rest))

pub before_passes : (P : ℕ → Type 0) (q a : ℕ) (rest : List ℕ) → All P (a ∷ rest) → P (before_in q (a ∷ rest))
before_passes P q a [] h = h 0 0 (omega arith)
before_passes P q a (b ∷ rest) h = go (cases_eq b q) (before_passes P q b rest (λ k d l. h (suc k) d (omega (arith, l)))) where
  go : (b ≡ q) ⊎ (b ≢ q) → P (before_in q (b ∷ rest)) → P (before_in q (a ∷ b ∷ rest))
  go (inl same) ih = subst P (sym (before_same q a b rest same)) (h 0 0 (omega arith))
  go (inr other) ih = subst P (sym (before_other q a b rest other)) ih

-- a place that isn't first is cut out of a chain by a write at the place before it
pub chain_cut : (next : List ℕ) (h n q : ℕ) → ((x : ℕ) → times x (chain_of next h (suc n)) ≤ 1) → ((x : ℕ) → 1 ≤ times x (chain_of next h (suc n)) → x < length next) → h ≢ q → 1 ≤ times q (chain_of next h (suc n))
    → (x : ℕ) → times x (chain_of (set next (before_in q (chain_of next h (suc n))) (get_or next q 0)) h n) + cond (eqb q x) 1 0 ≡ times x (chain_of next h (suc n))
chain_cut next h zero q once within ne there x = absurd (omega (arith, there, times-cons q h [], one_other h q ne))
chain_cut next h (suc m) q once within ne there x = go (cases_eq b q) (chain_cut next (get_or next h 0) m q) where
  b : ℕ
  b = get_or next h 0

  rest : List ℕ
  rest = chain_of next (get_or next b 0) m

  later : (x : ℕ) → times x (h ∷ b ∷ rest) ≡ cond (eqb h x) 1 0 + times x (b ∷ rest)
  later x = times-cons x h (b ∷ rest)

  none : times h (b ∷ rest) ≡ 0
  none = omega (arith, once h, later h, one_same h h refl)

  Cut : Type 0
  Cut = ((x : ℕ) → times x (b ∷ rest) ≤ 1) → ((x : ℕ) → 1 ≤ times x (b ∷ rest) → x < length next) → b ≢ q → 1 ≤ times q (b ∷ rest) → (x : ℕ) → times x (chain_of (set next (before_in q (b ∷ rest)) (get_or next q 0)) b m) + cond (eqb q x) 1 0 ≡ times x (b ∷ rest)

  go : (b ≡ q) ⊎ (b ≢ q) → Cut → times x (chain_of (set next (before_in q (h ∷ b ∷ rest)) (get_or next q 0)) h (suc m)) + cond (eqb q x) 1 0 ≡ times x (h ∷ b ∷ rest)
  go (inl same) cut =
      let y : ℕ = get_or next q 0 in
      let at : get_or (set next h y) h 0 ≡ y = get_or-set_same next h y 0 (within h (omega (arith, later h, one_same h h refl))) in
      let to : y ≡ get_or next b 0 = ap (λ p. get_or next p 0) (sym same) in
      let apart : times h rest ≡ 0 = omega (arith, none, times-cons h b rest) in
      let new : chain_of (set next h y) (get_or (set next h y) h 0) m ≡ rest = ap (λ p. chain_of (set next h y) p m) (at ∙ to) ∙ chain_kept next (get_or next b 0) m h y apart in
      let ahead : times x (h ∷ chain_of (set next h y) (get_or (set next h y) h 0) m) ≡ cond (eqb h x) 1 0 + times x rest = times-cons x h (chain_of (set next h y) (get_or (set next h y) h 0) m) ∙ ap (λ ps. cond (eqb h x) 1 0 + times x ps) new in
      let out : cond {A = ℕ} (eqb b x) 1 0 ≡ cond (eqb q x) 1 0 = ap (λ p. cond {A = ℕ} (eqb p x) 1 0) same in
      let put : times x (chain_of (set next (before_in q (h ∷ b ∷ rest)) y) h (suc m)) ≡ times x (h ∷ chain_of (set next h y) (get_or (set next h y) h 0) m) = ap (λ p. times x (chain_of (set next p y) h (suc m))) (before_same q h b rest same) in
      omega (arith, put, ahead, out, later x, times-cons x b rest)
  go (inr other) cut =
      let at : ℕ = before_in q (b ∷ rest) in
      let y : ℕ = get_or next q 0 in
      let less : (x : ℕ) → times x (b ∷ rest) ≤ times x (h ∷ b ∷ rest) = (λ x. omega (arith, later x)) in
      let apart : h ≢ at = (λ same. absurd (omega (arith, none, before_is_there q b rest, ap (λ p. times p (b ∷ rest)) same))) in
      let keep : get_or (set next at y) h 0 ≡ b = get_or-set_other next at h y 0 apart in
      let ih = cut (λ x. omega (arith, once x, less x)) (λ x h. within x (omega (arith, h, less x))) other (omega (arith, there, later q, one_other h q ne)) x in
      let ahead : times x (h ∷ chain_of (set next at y) (get_or (set next at y) h 0) m) ≡ cond (eqb h x) 1 0 + times x (chain_of (set next at y) b m) = times-cons x h (chain_of (set next at y) (get_or (set next at y) h 0) m) ∙ ap (λ p. cond (eqb h x) 1 0 + times x (chain_of (set next at y) p m)) keep in
      let put : times x (chain_of (set next (before_in q (h ∷ b ∷ rest)) y) h (suc m)) ≡ times x (h ∷ chain_of (set next at y) (get_or (set next at y) h 0) m) = ap (λ p. times x (chain_of (set next p y) h (suc m))) (before_other q h b rest other) in
      omega (arith, put, ahead, ih, later x)
