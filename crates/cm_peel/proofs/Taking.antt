-- Taking the edges of some places, one after another.
use Rattle.std.proofs.Common.{◌≡◌, ◌≢◌, ◌⊎◌, ℕ, suc, ◌+◌, ◌/◌, ◌%◌, ◌<◌, ◌≤◌, Bool, true, false, cond, eqb, ltb, leb, min, not, ◌&&◌, ◌||◌, List, [], ◌∷◌, ◌++◌, length, get_or, set, sym, refl, ap, ◌∙◌, subst, inl, inr, arith, append_assoc, append-nil, get_or-set_other}
use Rattle.std.specs.List.{IsDistinct, AllByRecursion}
use Rattle.std.proofs.lemmas.Bool.{cases_Bool, cases_eq, cases_lt, eq-eqb, eqb-true, ne_eqb, lt-ltb, le-ltb, le-leb, lt-leb, and_parts, and_from, and_right, or_cases, or_parts, or_left, or_right, cond-true, cond-false, false≢true}
use Rattle.std.proofs.lemmas.Grind.{get_or-set_at}
use Rattle.std.proofs.lemmas.List.Folds.{list_any-append}
use Rattle.std.proofs.lemmas.Map.Keys.{IsDistinct-cons}
use Rattle.std.proofs.Math.ListN.{length-set}
use Rattle.cm_spec.specs.Lists.{has}
use Rattle.cm_peel.specs.AtRound.{AreTaken, is_listed, least, tag_of}
use Rattle.cm_peel.specs.Peeling.{is_taken}
use Rattle.cm_peel.specs.SetLaws.{AreApart}

pub or_none : (b : Bool) → (b || false) ≡ b
or_none true = refl
or_none false = refl

pub has-append : (xs ys : List ℕ) (e : ℕ) → has (xs ++ ys) e ≡ (has xs e || has ys e)
has-append xs ys e = list_any-append (λ x. eqb x e) xs ys

pub has-push : (xs : List ℕ) (e d : ℕ) → has (xs ++ e ∷ []) d ≡ (has xs d || eqb e d)
has-push xs e d = has-append xs (e ∷ []) d ∙ ap (λ b. has xs d || b) (or_none (eqb e d))

pub has-push_same : (xs : List ℕ) (e d : ℕ) → e ≡ d → has (xs ++ e ∷ []) d ≡ true
has-push_same xs e d same = has-push xs e d ∙ or_right _ _ (eq-eqb e d same)

pub has-push_other : (xs : List ℕ) (e d : ℕ) → e ≢ d → has (xs ++ e ∷ []) d ≡ has xs d
has-push_other xs e d other = has-push xs e d ∙ (ap (λ b. has xs d || b) (ne_eqb e d other) ∙ or_none (has xs d))

-- lists in which no number stands twice
pub AreApart-push : (xs : List ℕ) (e : ℕ) → AreApart xs → has xs e ≡ false → AreApart (xs ++ e ∷ [])
AreApart-push [] e a h = (refl, tt)
AreApart-push (x ∷ xs) e a h =
    let parts = or_parts (eqb x e) (has xs e) h in
    let other : e ≢ x = (λ s. false≢true (sym parts.0 ∙ eq-eqb x e (sym s))) in
    (has-push_other xs e x other ∙ a.0, AreApart-push xs e a.1 parts.1)

pub AreApart-append : (xs ys : List ℕ) → AreApart xs → AreApart ys → ((e : ℕ) → has xs e ≡ true → has ys e ≡ false) → AreApart (xs ++ ys)
AreApart-append [] ys a b h = b
AreApart-append (x ∷ xs) ys a b h =
    (has-append xs ys x ∙ (ap (λ c. c || has ys x) a.0 ∙ h x (or_left _ _ (eq-eqb x x refl))), AreApart-append xs ys a.1 b (λ e m. h e (or_right (eqb x e) (has xs e) m)))

differ : (x : ℕ) (xs : List ℕ) → has xs x ≡ false → AllByRecursion (λ y. eqb x y ≡ false) xs
differ x [] h = tt
differ x (y ∷ ys) h =
    let parts = or_parts (eqb y x) (has ys x) h in
    (ne_eqb x y (λ s. false≢true (sym parts.0 ∙ eq-eqb y x (sym s))), differ x ys parts.1)

distinct : (xs : List ℕ) → AreApart xs → IsDistinct eqb xs
unfolding IsDistinct
distinct [] a = tt
distinct (x ∷ xs) a = IsDistinct-cons eqb x xs (differ x xs a.0) (distinct xs a.1)

pub are_distinct : (xs : List ℕ) → AreApart xs → IsDistinct eqb xs
are_distinct = distinct

-- one more place
pub listed-push : (places : List ℕ) (q e : ℕ) → is_listed (places ++ q ∷ []) e ≡ (is_listed places e || eqb (q / 4) e)
listed-push places q e = list_any-append (λ p. eqb (p / 4) e) places (q ∷ []) ∙ ap (λ b. is_listed places e || b) (or_none (eqb (q / 4) e))

pub least-push_same : (tag : ℕ) (places : List ℕ) (q e b : ℕ) → eqb (q / 4) e ≡ true → least tag (places ++ q ∷ []) e b ≡ min (least tag places e b) (tag + q % 4)
least-push_same tag [] q e b same = cond-true _ _ _ same ∙ omega arith
least-push_same tag (p ∷ places) q e b same = go (eqb (p / 4) e) (least-push_same tag places q e b same) where
  go : (c : Bool) → least tag (places ++ q ∷ []) e b ≡ min (least tag places e b) (tag + q % 4)
      → cond c (min (tag + p % 4) (least tag (places ++ q ∷ []) e b)) (least tag (places ++ q ∷ []) e b) ≡ min (cond c (min (tag + p % 4) (least tag places e b)) (least tag places e b)) (tag + q % 4)
  go true ih = omega (arith, ih)
  go false ih = ih

pub least-push_other : (tag : ℕ) (places : List ℕ) (q e b : ℕ) → eqb (q / 4) e ≡ false → least tag (places ++ q ∷ []) e b ≡ least tag places e b
least-push_other tag [] q e b other = cond-false _ _ _ other
least-push_other tag (p ∷ places) q e b other = ap (λ n. cond (eqb (p / 4) e) (min (tag + p % 4) n) n) (least-push_other tag places q e b other)

-- the least byte
pub least-le : (tag : ℕ) (places : List ℕ) (e b : ℕ) → least tag places e b ≤ b
least-le tag [] e b = omega arith
least-le tag (p ∷ places) e b = go (eqb (p / 4) e) (least-le tag places e b) where
  go : (c : Bool) → least tag places e b ≤ b → cond c (min (tag + p % 4) (least tag places e b)) (least tag places e b) ≤ b
  go true ih = omega arith
  go false ih = ih

pub least-le_listed : (tag : ℕ) (places : List ℕ) (q e b : ℕ) → has places q ≡ true → q / 4 ≡ e → least tag places e b ≤ tag + q % 4
least-le_listed tag [] q e b m is = absurd (false≢true m)
least-le_listed tag (p ∷ places) q e b m is = go (or_cases (eqb p q) (has places q) m) (λ n. least-le_listed tag places q e b n is) where
  go : (eqb p q ≡ true) ⊎ (has places q ≡ true) → (has places q ≡ true → least tag places e b ≤ tag + q % 4) → cond (eqb (p / 4) e) (min (tag + p % 4) (least tag places e b)) (least tag places e b) ≤ tag + q % 4
  go (inl same) ih =
      let z : p ≡ q = eqb-true p q same in
      let first : eqb (p / 4) e ≡ true = eq-eqb _ _ (ap (λ x. x / 4) z ∙ is) in
      let tail : p % 4 ≡ q % 4 = ap (λ x. x % 4) z in
      rw first (omega (arith, tail))
  go (inr more) ih = by (eqb (p / 4) e) (ih more) where
    by : (c : Bool) → least tag places e b ≤ tag + q % 4 → cond c (min (tag + p % 4) (least tag places e b)) (least tag places e b) ≤ tag + q % 4
    by true le = omega arith
    by false le = le

pub least-low : (tag : ℕ) (places : List ℕ) (e b : ℕ) → tag ≤ 4 → is_listed places e ≡ true → least tag places e b < 8
least-low tag [] e b low m = absurd (false≢true m)
least-low tag (p ∷ places) e b low m = go (eqb (p / 4) e) refl (least-low tag places e b low) where
  go : (c : Bool) → eqb (p / 4) e ≡ c → (is_listed places e ≡ true → least tag places e b < 8) → cond c (min (tag + p % 4) (least tag places e b)) (least tag places e b) < 8
  go true is ih = omega arith
  go false is ih = ih (sym (ap (λ c. c || is_listed places e) is) ∙ m)

pub least-unlisted : (tag : ℕ) (places : List ℕ) (e b : ℕ) → is_listed places e ≡ false → least tag places e b ≡ b
least-unlisted tag [] e b none = refl
least-unlisted tag (p ∷ places) e b none =
    let parts = or_parts (eqb (p / 4) e) (is_listed places e) none in
    cond-false _ _ _ parts.0 ∙ least-unlisted tag places e b parts.1

-- it is the byte, or that of a place
pub least-is : (tag : ℕ) (places : List ℕ) (e b : ℕ) → (least tag places e b ≡ b) ⊎ ((q : ℕ) × (has places q ≡ true) × (q / 4 ≡ e) × (least tag places e b ≡ tag + q % 4))
least-is tag [] e b = inl refl
least-is tag (p ∷ places) e b = go (eqb (p / 4) e) refl (least-is tag places e b) where
  rest : ℕ
  rest = least tag places e b

  more : (c : ℕ) → c ≡ least tag places e b → (least tag places e b ≡ b) ⊎ ((q : ℕ) × (has places q ≡ true) × (q / 4 ≡ e) × (least tag places e b ≡ tag + q % 4))
      → (c ≡ b) ⊎ ((q : ℕ) × (has (p ∷ places) q ≡ true) × (q / 4 ≡ e) × (c ≡ tag + q % 4))
  more c is (inl same) = inl (is ∙ same)
  more c is (inr r) = inr (r.0, or_right (eqb p r.0) _ r.1, r.2, is ∙ r.3)

  go : (c : Bool) → eqb (p / 4) e ≡ c → (least tag places e b ≡ b) ⊎ ((q : ℕ) × (has places q ≡ true) × (q / 4 ≡ e) × (least tag places e b ≡ tag + q % 4))
      → (cond c (min (tag + p % 4) (least tag places e b)) (least tag places e b) ≡ b) ⊎ ((q : ℕ) × (has (p ∷ places) q ≡ true) × (q / 4 ≡ e) × (cond c (min (tag + p % 4) (least tag places e b)) (least tag places e b) ≡ tag + q % 4))
  go false is ih = more (least tag places e b) refl ih
  go true is ih = elim (cases_lt (tag + p % 4) (least tag places e b)) [
    | inl low ↦ inr (p, or_left _ (has places p) (eq-eqb p p refl), eqb-true _ _ is, omega arith)
    | inr high ↦ more _ (omega arith) ih
  ]

-- a place whose edge is of the round before, of the next one, or of none
pub taken_more : (t : ℕ) (places : List ℕ) (q e x : ℕ) (bytes now bytes' next kept next' : List ℕ) → AreTaken t places bytes now next kept → e ≡ q / 4 → e < length bytes
    → x ≡ cond (eqb (get_or bytes e 0 / 4) (t % 2)) (get_or now e 0) (min (get_or now e 0) (tag_of (suc t) + q % 4)) → bytes' ≡ set now e x → next' ≡ kept ++ cond (leb 8 (get_or now e 0)) (e ∷ []) [] → AreTaken t (places ++ q ∷ []) bytes bytes' next next'
taken_more t places q e x bytes now bytes' next kept next' r at h is bytes_are next_is = go (cases_lt (get_or now e 0) 8) where
  tag : ℕ
  tag = tag_of (suc t)

  low : tag_of (suc t) ≤ 4
  low = omega arith

  old : ℕ
  old = get_or bytes e 0

  here : eqb (q / 4) e ≡ true
  here = eq-eqb _ _ (sym at)

  was : get_or now e 0 ≡ cond (eqb (get_or bytes e 0 / 4) (t % 2)) (get_or bytes e 0) (least (tag_of (suc t)) places e (get_or bytes e 0))
  was = r.byte e h

  -- the edge's byte
  set_is : get_or bytes' e 0 ≡ x
  set_is = ap (λ (bs : List ℕ). get_or bs e 0) bytes_are ∙ get_or-set_at now e e x 0 refl (omega (arith, r.bytes_long))

  byte_here : x ≡ cond (eqb (get_or bytes e 0 / 4) (t % 2)) (get_or bytes e 0) (least (tag_of (suc t)) (places ++ q ∷ []) e (get_or bytes e 0))
  byte_here = is ∙ by (eqb (get_or bytes e 0 / 4) (t % 2)) was where
    by : (c : Bool) → get_or now e 0 ≡ cond c (get_or bytes e 0) (least (tag_of (suc t)) places e (get_or bytes e 0))
        → cond c (get_or now e 0) (min (get_or now e 0) (tag_of (suc t) + q % 4)) ≡ cond c (get_or bytes e 0) (least (tag_of (suc t)) (places ++ q ∷ []) e (get_or bytes e 0))
    by true w = w
    by false w = omega (arith, w, least-push_same (tag_of (suc t)) places q e (get_or bytes e 0) here)

  byte : (k : ℕ) → k < length bytes → (e ≡ k) ⊎ (e ≡ k → ⊥) → get_or bytes' k 0 ≡ cond (eqb (get_or bytes k 0 / 4) (t % 2)) (get_or bytes k 0) (least (tag_of (suc t)) (places ++ q ∷ []) k (get_or bytes k 0))
  byte k below (inl same) = subst (λ (v : ℕ). get_or bytes' v 0 ≡ cond (eqb (get_or bytes v 0 / 4) (t % 2)) (get_or bytes v 0) (least (tag_of (suc t)) (places ++ q ∷ []) v (get_or bytes v 0))) same (set_is ∙ byte_here)
  byte k below (inr other) =
      let fails : eqb (q / 4) k ≡ false = ne_eqb _ _ (λ s. other (at ∙ s)) in
      ap (λ (bs : List ℕ). get_or bs k 0) bytes_are ∙ (get_or-set_other now e k x 0 (λ s. other (sym s)) ∙ (r.byte k below
      ∙ ap (λ n. cond (eqb (get_or bytes k 0 / 4) (t % 2)) (get_or bytes k 0) n) (sym (least-push_other (tag_of (suc t)) places q k (get_or bytes k 0) fails))))

  -- a byte of 8 or more is of no round
  other_tag : 8 ≤ get_or bytes e 0 → eqb (get_or bytes e 0 / 4) (t % 2) ≡ false
  other_tag far = ne_eqb _ _ (λ s. absurd (omega (arith, s)))

  longer : length bytes' ≡ length bytes
  longer = ap length bytes_are ∙ (length-set _ _ _ ∙ r.bytes_long)

  push : 8 ≤ get_or now e 0 → AreTaken t (places ++ q ∷ []) bytes bytes' next next'
  push far = record {
    fresh = r.fresh ++ e ∷ [];
    next_is = next_is ∙ (ap (λ b. kept ++ cond b (e ∷ []) []) (le-leb 8 _ far) ∙ (ap (λ (xs : List ℕ). xs ++ e ∷ []) r.next_is ∙ append_assoc next r.fresh (e ∷ [])));
    apart = AreApart-push r.fresh e r.apart new;
    members = λ k. members k (cases_eq e k);
    bytes_long = longer;
    byte = λ k below. byte k below (cases_eq e k);
  } where
    before : 8 ≤ get_or bytes e 0
    before = by (eqb (get_or bytes e 0 / 4) (t % 2)) was where
      by : (c : Bool) → get_or now e 0 ≡ cond c (get_or bytes e 0) (least (tag_of (suc t)) places e (get_or bytes e 0)) → 8 ≤ get_or bytes e 0
      by true w = omega (arith, w)
      by false w = omega (arith, w, least-le (tag_of (suc t)) places e (get_or bytes e 0))

    new : has r.fresh e ≡ false
    new = by (cases_Bool (has r.fresh e)) where
      by : (has r.fresh e ≡ true) ⊎ (has r.fresh e ≡ false) → has r.fresh e ≡ false
      by (inr m) = m
      by (inl m) =
          let listed = (and_parts (is_listed places e) _ (sym (r.members e) ∙ m)).0 in
          absurd (omega (arith, was ∙ cond-false _ _ _ (other_tag before), least-low (tag_of (suc t)) places e (get_or bytes e 0) low listed))

    members : (k : ℕ) → (e ≡ k) ⊎ (e ≡ k → ⊥) → has (r.fresh ++ e ∷ []) k ≡ (is_listed (places ++ q ∷ []) k && not (is_taken bytes k))
    members k (inl same) =
        let untaken : not (is_taken bytes k) ≡ true = ap not (ap (λ y. ltb (get_or bytes y 0) 8) (sym same) ∙ le-ltb _ 8 before) in
        let listed : is_listed (places ++ q ∷ []) k ≡ true = listed-push places q k ∙ or_right (is_listed places k) _ (eq-eqb _ _ (sym at ∙ same)) in
        has-push_same r.fresh e k same ∙ sym (and_from _ _ listed untaken)
    members k (inr other) =
        let fails : eqb (q / 4) k ≡ false = ne_eqb _ _ (λ s. other (at ∙ s)) in
        has-push_other r.fresh e k other ∙ (r.members k ∙ ap (λ b. b && not (is_taken bytes k)) (sym (listed-push places q k ∙ (ap (λ b. is_listed places k || b) fails ∙ or_none (is_listed places k)))))

  skip : get_or now e 0 < 8 → AreTaken t (places ++ q ∷ []) bytes bytes' next next'
  skip near = record {
    fresh = r.fresh;
    next_is = next_is ∙ (ap (λ b. kept ++ cond b (e ∷ []) []) (lt-leb 8 _ near) ∙ (append-nil kept ∙ r.next_is));
    apart = r.apart;
    members = λ k. r.members k ∙ members k (cases_eq e k) (cases_lt (get_or bytes e 0) 8) (cases_Bool (is_listed places e));
    bytes_long = longer;
    byte = λ k below. byte k below (cases_eq e k);
  } where
    members : (k : ℕ) → (e ≡ k) ⊎ (e ≡ k → ⊥) → (get_or bytes e 0 < 8) ⊎ (8 ≤ get_or bytes e 0) → (is_listed places e ≡ true) ⊎ (is_listed places e ≡ false) → (is_listed places k && not (is_taken bytes k)) ≡ (is_listed (places ++ q ∷ []) k && not (is_taken bytes k))
    members k (inl same) (inl below) l =
        let taken : not (is_taken bytes k) ≡ false = ap not (ap (λ y. ltb (get_or bytes y 0) 8) (sym same) ∙ lt-ltb _ 8 below) in
        and_right (is_listed places k) _ taken ∙ sym (and_right (is_listed (places ++ q ∷ []) k) _ taken)
    members k (inl same) (inr far) (inl listed) =
        let now_listed : is_listed (places ++ q ∷ []) k ≡ true = listed-push places q k ∙ or_right (is_listed places k) _ (eq-eqb _ _ (sym at ∙ same)) in
        let then_listed : is_listed places k ≡ true = ap (is_listed places) (sym same) ∙ listed in
        ap (λ b. b && not (is_taken bytes k)) (then_listed ∙ sym now_listed)
    members k (inl same) (inr far) (inr unlisted) = absurd (omega (arith, was ∙ cond-false _ _ _ (other_tag far), least-unlisted (tag_of (suc t)) places e (get_or bytes e 0) unlisted))
    members k (inr other) b l =
        let fails : eqb (q / 4) k ≡ false = ne_eqb _ _ (λ s. other (at ∙ s)) in
        ap (λ b. b && not (is_taken bytes k)) (sym (listed-push places q k ∙ (ap (λ b. is_listed places k || b) fails ∙ or_none (is_listed places k))))

  go : (get_or now e 0 < 8) ⊎ (8 ≤ get_or now e 0) → AreTaken t (places ++ q ∷ []) bytes bytes' next next'
  go (inl near) = skip near
  go (inr far) = push far
