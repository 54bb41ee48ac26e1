-- Lemmas about sets of numbers, as rising lists and as tests. Of the definitions, contracts need `AreApart` alone.
use Rattle.std.proofs.Common.{◌≡◌, ◌⊎◌, ℕ, zero, suc, ◌+◌, ◌<◌, ◌≤◌, Bool, true, false, cond, eqb, ◌&&◌, ◌||◌, List, [], ◌∷◌, length, get_or, sym, refl, ap, ◌∙◌, subst, inl, inr, arith, ◌≢◌, not}
use Rattle.std.specs.List.{Contains, count_by, filter, position_or_len}
use Rattle.std.specs.List.Sorted.{IsStrictlyIncreasing}
use Rattle.std.proofs.lemmas.Bool.{both_ways, cases_Bool, cases_eq, cases_lt, eqb-true, eq-eqb, ne_eqb, or_cases, or_left, or_right, false≢true}
use Rattle.std.proofs.lemmas.List.Sums.{sum_by-cons}
use Rattle.std.proofs.lemmas.List.Folds.{list_any_at, Any-from_list_any}
use Rattle.cm_spec.specs.Lists.{numbers_from, has}

pub count_by-cons : {X : Type 0} (p : X → Bool) (x : X) (xs : List X) → count_by p (x ∷ xs) ≡ cond (p x) 1 0 + count_by p xs
count_by-cons p x xs = sum_by-cons (λ y. cond (p y) 1 0) x xs

-- what a test may be known to be
pub and_false : (b : Bool) → (b && false) ≡ false
and_false true = refl
and_false false = refl

-- a filter of a filter
pub filter-filter : {X : Type 0} (p q : X → Bool) (xs : List X) → filter q (filter p xs) ≡ filter (λ x. p x && q x) xs
filter-filter p q [] = refl
filter-filter p q (x ∷ xs) = go (p x) (filter-filter p q xs) where
  go : (b : Bool) → filter q (filter p xs) ≡ filter (λ x. p x && q x) xs → filter q (cond b (x ∷ filter p xs) (filter p xs)) ≡ cond (b && q x) (x ∷ filter (λ x. p x && q x) xs) (filter (λ x. p x && q x) xs)
  go true e = ap (λ ys. cond (q x) (x ∷ ys) ys) e
  go false e = e

-- how many pass in a filter
pub count_by-filter : {X : Type 0} (p q : X → Bool) (xs : List X) → count_by q (filter p xs) ≡ count_by (λ x. p x && q x) xs
count_by-filter p q [] = refl
count_by-filter p q (x ∷ xs) = go (p x) (count_by-filter p q xs) ∙ sym (count_by-cons (λ x. p x && q x) x xs) where
  go : (b : Bool) → count_by q (filter p xs) ≡ count_by (λ x. p x && q x) xs → count_by q (cond b (x ∷ filter p xs) (filter p xs)) ≡ cond (b && q x) 1 0 + count_by (λ x. p x && q x) xs
  go true e = count_by-cons q x (filter p xs) ∙ ap (λ n. cond (q x) 1 0 + n) e
  go false e = e ∙ sym (omega arith)

pub one_le : (a b : Bool) → (a ≡ true → b ≡ true) → cond {A = ℕ} a 1 0 ≤ cond b 1 0
one_le true b h = let e : cond {A = ℕ} b 1 0 ≡ 1 = ap (λ (t : Bool). cond {A = ℕ} t 1 0) (h refl) in omega arith
one_le false b h = omega arith

-- what passes more has more that pass
pub count_by-le : {X : Type 0} (p q : X → Bool) (xs : List X) → ((x : X) → p x ≡ true → q x ≡ true) → count_by p xs ≤ count_by q xs
count_by-le p q [] h = omega arith
count_by-le p q (x ∷ xs) h = omega (arith, one_le (p x) (q x) (h x), count_by-le p q xs h, count_by-cons p x xs, count_by-cons q x xs)

-- membership in a filter
pub has-filter : (p : ℕ → Bool) (xs : List ℕ) (e : ℕ) → has (filter p xs) e ≡ (has xs e && p e)
has-filter p [] e = refl
has-filter p (x ∷ xs) e = go (cases_eq x e) (cases_Bool (p x)) (has-filter p xs e) where
  go : (x ≡ e) ⊎ (x ≡ e → ⊥) → (p x ≡ true) ⊎ (p x ≡ false) → has (filter p xs) e ≡ (has xs e && p e) → has (cond (p x) (x ∷ filter p xs) (filter p xs)) e ≡ ((eqb x e || has xs e) && p e)
  go (inl same) (inl pass) ih =
      let t : eqb x e ≡ true = eq-eqb x e same in
      let y : p e ≡ true = subst (λ z. p z ≡ true) same pass in
      rw (pass, t) (sym y)
  go (inl same) (inr fail) ih =
      let n : p e ≡ false = subst (λ z. p z ≡ false) same fail in
      rw fail (ih ∙ (ap (λ b. has xs e && b) n ∙ (and_false (has xs e) ∙ sym (ap (λ b. (eqb x e || has xs e) && b) n ∙ and_false _))))
  go (inr other) (inl pass) ih =
      let f : eqb x e ≡ false = ne_eqb x e other in
      rw (pass, f) ih
  go (inr other) (inr fail) ih =
      let f : eqb x e ≡ false = ne_eqb x e other in
      rw (fail, f) ih

-- a list of numbers that rise, from low on
abbrev pub Rises : ℕ → List ℕ → Type 0
Rises low [] = Unit {0}
Rises low (x ∷ xs) = (low ≤ x) × Rises (suc x) xs

pub Rises-weaker : (low low' : ℕ) (xs : List ℕ) → low' ≤ low → Rises low xs → Rises low' xs
Rises-weaker low low' [] h r = tt
Rises-weaker low low' (x ∷ xs) h r = (omega (arith, r.0), r.1)

pub rises_below : (low e : ℕ) (xs : List ℕ) → Rises low xs → e < low → has xs e ≡ false
rises_below low e [] r h = refl
rises_below low e (x ∷ xs) r h =
    let f : eqb x e ≡ false = ne_eqb x e (λ s. absurd (omega (arith, r.0))) in
    rw f (rises_below (suc x) e xs r.1 (omega (arith, r.0)))

-- no number stands twice in a list
abbrev pub AreApart : List ℕ → Type 0
AreApart [] = Unit {0}
AreApart (x ∷ xs) = (has xs x ≡ false) × AreApart xs

pub Rises-apart : (low : ℕ) (xs : List ℕ) → Rises low xs → AreApart xs
Rises-apart low [] r = tt
Rises-apart low (x ∷ xs) r = (rises_below (suc x) x xs r.1 (omega arith), Rises-apart (suc x) xs r.1)

pub Rises-filter : (p : ℕ → Bool) (low : ℕ) (xs : List ℕ) → Rises low xs → Rises low (filter p xs)
Rises-filter p low [] r = tt
Rises-filter p low (x ∷ xs) r = go (p x) (Rises-filter p (suc x) xs r.1) where
  go : (b : Bool) → Rises (suc x) (filter p xs) → Rises low (cond b (x ∷ filter p xs) (filter p xs))
  go true f = (r.0, f)
  go false f = Rises-weaker (suc x) low (filter p xs) (omega (arith, r.0)) f

pub Rises-numbers : (b n : ℕ) → Rises b (numbers_from b n)
Rises-numbers b zero = tt
Rises-numbers b (suc n) = (omega arith, Rises-numbers (suc b) n)

pub has-numbers : (b n e : ℕ) → b ≤ e → e < b + n → has (numbers_from b n) e ≡ true
has-numbers b zero e low high = absurd (omega arith)
has-numbers b (suc n) e low high = go (has-numbers (suc b) n e) (cases_eq b e) where
  go : (suc b ≤ e → e < suc b + n → has (numbers_from (suc b) n) e ≡ true) → (b ≡ e) ⊎ (b ≡ e → ⊥) → (eqb b e || has (numbers_from (suc b) n) e) ≡ true
  go ih (inl same) = or_left _ _ (eq-eqb b e same)
  go ih (inr other) = or_right _ _ (ih (omega arith) (omega arith))

pub has-numbers_low : (b n e : ℕ) → has (numbers_from b n) e ≡ true → b ≤ e
has-numbers_low b n e h = go (cases_lt e b) where
  go : (e < b) ⊎ (b ≤ e) → b ≤ e
  go (inl low) = absurd (both_ways _ (rises_below b e (numbers_from b n) (Rises-numbers b n) low) h)
  go (inr high) = high

pub has-numbers_high : (b n e : ℕ) → has (numbers_from b n) e ≡ true → e < b + n
has-numbers_high b zero e h = absurd (false≢true h)
has-numbers_high b (suc n) e h = go (has-numbers_high (suc b) n e) (or_cases _ _ h) where
  go : (has (numbers_from (suc b) n) e ≡ true → e < suc b + n) → (eqb b e ≡ true) ⊎ (has (numbers_from (suc b) n) e ≡ true) → e < b + suc n
  go ih (inl same) = omega (arith, eqb-true b e same)
  go ih (inr more) = omega (arith, ih more)

-- tests that agree on the list keep the same
pub filter_agree_on : (p q : ℕ → Bool) (xs : List ℕ) → ((x : ℕ) → has xs x ≡ true → p x ≡ q x) → filter p xs ≡ filter q xs
filter_agree_on p q [] h = refl
filter_agree_on p q (x ∷ xs) h =
    let here : p x ≡ q x = h x (or_left _ _ (eq-eqb x x refl)) in
    let rest : filter p xs ≡ filter q xs = filter_agree_on p q xs (λ y m. h y (or_right (eqb x y) (has xs y) m)) in
    ap (λ b. cond b (x ∷ filter p xs) (filter p xs)) here ∙ ap (λ ys. cond (q x) (x ∷ ys) ys) rest

-- a rising list is what its own test keeps of the numbers
pub rising_is_filter : (b n : ℕ) (xs : List ℕ) → Rises b xs → ((e : ℕ) → has xs e ≡ true → e < b + n) → xs ≡ filter (has xs) (numbers_from b n)
rising_is_filter b zero [] r h = refl
rising_is_filter b zero (x ∷ xs) r h = absurd (omega (arith, r.0, h x (or_left _ _ (eq-eqb x x refl))))
rising_is_filter b (suc n) [] r h = rising_is_filter (suc b) n [] tt (λ e m. absurd (false≢true m))
rising_is_filter b (suc n) (x ∷ xs) r h =
    go (cases_eq x b) (rising_is_filter (suc b) n xs) (rising_is_filter (suc b) n (x ∷ xs)) where
      go : (x ≡ b) ⊎ (x ≡ b → ⊥)
          → (Rises (suc b) xs → ((e : ℕ) → has xs e ≡ true → e < suc b + n) → xs ≡ filter (has xs) (numbers_from (suc b) n))
          → (Rises (suc b) (x ∷ xs) → ((e : ℕ) → has (x ∷ xs) e ≡ true → e < suc b + n) → x ∷ xs ≡ filter (has (x ∷ xs)) (numbers_from (suc b) n))
          → x ∷ xs ≡ filter (has (x ∷ xs)) (numbers_from b (suc n))
      go (inl same) ih₁ ih₂ =
          let ns : List ℕ = numbers_from (suc b) n in
          let first : has (x ∷ xs) b ≡ true = or_left _ _ (eq-eqb x b same) in
          let agree : filter (has xs) ns ≡ filter (has (x ∷ xs)) ns = filter_agree_on (has xs) (has (x ∷ xs)) ns (λ y m.
          let f : eqb x y ≡ false = ne_eqb x y (λ e. absurd (omega (arith, has-numbers_low (suc b) n y m))) in
          sym (ap (λ t. t || has xs y) f)) in
          let rest : xs ≡ filter (has xs) ns = ih₁ (Rises-weaker (suc x) (suc b) xs (omega arith) r.1) (λ e m. omega (arith, h e (or_right (eqb x e) (has xs e) m))) in
          ap (λ z. z ∷ xs) same ∙ (ap (λ ys. b ∷ ys) (rest ∙ agree) ∙ sym (ap (λ t. cond t (b ∷ filter (has (x ∷ xs)) ns) (filter (has (x ∷ xs)) ns)) first))
      go (inr other) ih₁ ih₂ =
          let ns : List ℕ = numbers_from (suc b) n in
          let above : suc b ≤ x = omega (arith, r.0) in
          let first : has (x ∷ xs) b ≡ false = rises_below (suc b) b (x ∷ xs) (above, r.1) (omega arith) in
          ih₂ (above, r.1) (λ e m. omega (arith, h e m)) ∙ sym (ap (λ t. cond t (b ∷ filter (has (x ∷ xs)) ns) (filter (has (x ∷ xs)) ns)) first)

-- the two ways to say that a list rises
pub Rises-from_increasing : (low : ℕ) (xs : List ℕ) → IsStrictlyIncreasing xs → (0 < length xs → low ≤ get_or xs 0 0) → Rises low xs
Rises-from_increasing low [] h l = tt
Rises-from_increasing low (x ∷ xs) h l = (
  l (omega arith),
  Rises-from_increasing (suc x) xs (λ k m. let n : suc k + 1 < suc (length xs) = omega arith in let s : suc k + 1 ≡ suc (k + 1) = omega arith in let g = h (suc k) n in rw s at g) (λ m. h 0 (omega arith)),
)

pub increasing_cons : (x : ℕ) (xs : List ℕ) → Rises (suc x) xs → IsStrictlyIncreasing xs → IsStrictlyIncreasing (x ∷ xs)
increasing_cons x [] r h k m = absurd (omega arith)
increasing_cons x (y ∷ ys) r h zero m = r.0
increasing_cons x (y ∷ ys) r h (suc k) m =
    let n : k + 1 < suc (length ys) = omega arith in
    let s : suc k + 1 ≡ suc (k + 1) = omega arith in
    rw s (h k n)

pub increasing_from_Rises : (low : ℕ) (xs : List ℕ) → Rises low xs → IsStrictlyIncreasing xs
increasing_from_Rises low [] r = λ k m. absurd (omega arith)
increasing_from_Rises low (x ∷ xs) r = increasing_cons x xs r.1 (increasing_from_Rises (suc x) xs r.1)

-- the two ways to say that a list has a number
pub has-from_Contains : (xs : List ℕ) (e : ℕ) → Contains xs e → has xs e ≡ true
has-from_Contains xs e m = list_any_at (λ x. eqb x e) xs m.0 e m.1 (eq-eqb _ _ m.2)

pub Contains-from_has : (xs : List ℕ) (e : ℕ) → has xs e ≡ true → Contains xs e
Contains-from_has xs e h =
    let a = Any-from_list_any (λ x. eqb x e) xs h in
    let same : a.1 ≡ e = eqb-true a.1 e a.4 in
    (a.0, a.2, subst (λ z. get_or xs a.0 z ≡ z) same a.3)

pub length-numbers : (b n : ℕ) → length (numbers_from b n) ≡ n
length-numbers b zero = refl
length-numbers b (suc n) = ap suc (length-numbers (suc b) n)

-- counts and members
pub count_by_some : (p : ℕ → Bool) (xs : List ℕ) (e : ℕ) → has xs e ≡ true → p e ≡ true → 1 ≤ count_by p xs
count_by_some p [] e h pass = absurd (false≢true h)
count_by_some p (x ∷ xs) e h pass = go (or_cases (eqb x e) (has xs e) h) (λ m. count_by_some p xs e m pass) where
  go : (eqb x e ≡ true) ⊎ (has xs e ≡ true) → (has xs e ≡ true → 1 ≤ count_by p xs) → 1 ≤ count_by p (x ∷ xs)
  go (inl same) ih =
      let o : cond {A = ℕ} (p x) 1 0 ≡ 1 = ap (λ (t : ℕ). cond {A = ℕ} (p t) 1 0) (eqb-true x e same) ∙ ap (λ (b : Bool). cond {A = ℕ} b 1 0) pass in
      omega (arith, count_by-cons p x xs)
  go (inr more) ih = omega (arith, count_by-cons p x xs, ih more)

pub count_by_two : (p : ℕ → Bool) (xs : List ℕ) (a b : ℕ) → a ≢ b → has xs a ≡ true → has xs b ≡ true → p a ≡ true → p b ≡ true → 2 ≤ count_by p xs
count_by_two p [] a b ne ha hb pa pb = absurd (false≢true ha)
count_by_two p (x ∷ xs) a b ne ha hb pa pb = go (or_cases (eqb x a) (has xs a) ha) (or_cases (eqb x b) (has xs b) hb) (λ m n. count_by_two p xs a b ne m n pa pb) where
  one_at : (e : ℕ) → x ≡ e → p e ≡ true → cond {A = ℕ} (p x) 1 0 ≡ 1
  one_at e same pass = ap (λ (t : ℕ). cond {A = ℕ} (p t) 1 0) same ∙ ap (λ (b : Bool). cond {A = ℕ} b 1 0) pass

  go : (eqb x a ≡ true) ⊎ (has xs a ≡ true) → (eqb x b ≡ true) ⊎ (has xs b ≡ true) → (has xs a ≡ true → has xs b ≡ true → 2 ≤ count_by p xs) → 2 ≤ count_by p (x ∷ xs)
  go (inl sa) (inl sb) ih = absurd (ne (sym (eqb-true x a sa) ∙ eqb-true x b sb))
  go (inl sa) (inr mb) ih = omega (arith, count_by-cons p x xs, one_at a (eqb-true x a sa) pa, count_by_some p xs b mb pb)
  go (inr ma) (inl sb) ih = omega (arith, count_by-cons p x xs, one_at b (eqb-true x b sb) pb, count_by_some p xs a ma pa)
  go (inr ma) (inr mb) ih = omega (arith, count_by-cons p x xs, ih ma mb)

pub place_within : {X : Type 0} (p : X → Bool) (xs : List X) → 1 ≤ count_by p xs → position_or_len p xs < length xs
place_within p [] h = absurd (omega arith)
place_within p (x ∷ xs) h = go (p x) refl (place_within p xs) where
  go : (b : Bool) → p x ≡ b → (1 ≤ count_by p xs → position_or_len p xs < length xs) → cond (not (p x)) (1 + position_or_len p xs) 0 < suc (length xs)
  go true is ih = rw is (omega arith)
  go false is ih =
      let o : cond {A = ℕ} (p x) 1 0 ≡ 0 = ap (λ (b : Bool). cond {A = ℕ} b 1 0) is in
      let c : count_by p (x ∷ xs) ≡ cond (p x) 1 0 + count_by p xs = count_by-cons p x xs in
      let less : position_or_len p xs < length xs = ih (omega arith) in
      let n : cond {A = ℕ} (not (p x)) (1 + position_or_len p xs) 0 ≡ 1 + position_or_len p xs = ap (λ (b : Bool). cond {A = ℕ} (not b) (1 + position_or_len p xs) 0) is in
      omega arith

pub get_or-numbers : (b n k : ℕ) → k < n → get_or (numbers_from b n) k 0 ≡ b + k
get_or-numbers b zero k h = absurd (omega arith)
get_or-numbers b (suc n) zero h = omega arith
get_or-numbers b (suc n) (suc k) h = get_or-numbers (suc b) n k (omega arith) ∙ omega arith
