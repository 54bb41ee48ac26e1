-- Freed places that wait until their edges are taken.
use Rattle.std.proofs.Common.{◌≡◌, ◌≢◌, ◌⊎◌, ℕ, zero, suc, ◌+◌, ◌*◌, ◌/◌, ◌%◌, ◌<◌, ◌≤◌, Bool, true, false, cond, eqb, leb, min, ◌||◌, List, [], ◌∷◌, ◌++◌, length, get_or, set, take, drop, sym, refl, ap, ◌∙◌, subst, inl, inr, arith, append-nil, get_or-set_other}
use Rattle.std.proofs.Math.ListN.{length-set}
use Rattle.std.proofs.lemmas.Bool.{cases_Bool, cases_eq, cases_lt, eq-eqb, eqb-true, ne_eqb, or_cases, or_left, or_right, cond-true, cond-false, false≢true}
use Rattle.std.proofs.lemmas.List.{get_or-set_same}
use Rattle.cm_spec.specs.Lists.{has}
use Rattle.cm_peel.specs.AtRound.{AreTaken, is_listed, least, tag_of}
use Rattle.cm_peel.specs.Marks.{is_marked}
use Rattle.cm_peel.specs.Waiting.{AreWaiting, Leads, edge_blocks, freed_in, put_freed}
use Rattle.cm_peel.proofs.Sets.{same_from}
use Rattle.cm_peel.proofs.Taking.{has-append, has-push_other, least-is, least-le, least-le_listed, taken_more}
use Rattle.cm_peel.proofs.Waits.{piece_set, step_over}

-- whether an edge is listed, and its least byte, depend on its own places alone
pub listed_at : (xs : List ℕ) (e : ℕ) → is_listed xs e ≡ true → (q : ℕ) × (has xs q ≡ true) × (q / 4 ≡ e)
listed_at [] e h = absurd (false≢true h)
listed_at (x ∷ xs) e h = go (or_cases (eqb (x / 4) e) (is_listed xs e) h) (listed_at xs e) where
  go : (eqb (x / 4) e ≡ true) ⊎ (is_listed xs e ≡ true) → (is_listed xs e ≡ true → (q : ℕ) × (has xs q ≡ true) × (q / 4 ≡ e)) → (q : ℕ) × (has (x ∷ xs) q ≡ true) × (q / 4 ≡ e)
  go (inl here) ih = (x, or_left (eqb x x) (has xs x) (eq-eqb x x refl), eqb-true _ _ here)
  go (inr more) ih = let r = ih more in (r.0, or_right (eqb x r.0) (has xs r.0) r.1, r.2)

pub listed_from : (xs : List ℕ) (q e : ℕ) → has xs q ≡ true → q / 4 ≡ e → is_listed xs e ≡ true
listed_from [] q e h at = absurd (false≢true h)
listed_from (x ∷ xs) q e h at = go (or_cases (eqb x q) (has xs q) h) (λ m. listed_from xs q e m at) where
  go : (eqb x q ≡ true) ⊎ (has xs q ≡ true) → (has xs q ≡ true → is_listed xs e ≡ true) → (eqb (x / 4) e || is_listed xs e) ≡ true
  go (inl same) ih = or_left _ _ (eq-eqb _ _ (ap (λ n. n / 4) (eqb-true x q same) ∙ at))
  go (inr more) ih = or_right (eqb (x / 4) e) _ (ih more)

pub listed_same : (xs ys : List ℕ) (e : ℕ) → ((q : ℕ) → q / 4 ≡ e → has xs q ≡ has ys q) → is_listed xs e ≡ is_listed ys e
listed_same xs ys e same = same_from (λ m. let r = listed_at xs e m in listed_from ys r.0 e (sym (same r.0 r.2) ∙ r.1) r.2) (λ m. let r = listed_at ys e m in listed_from xs r.0 e (same r.0 r.2 ∙ r.1) r.2)

least_within : (tag : ℕ) (xs ys : List ℕ) (e b : ℕ) → ((q : ℕ) → q / 4 ≡ e → has ys q ≡ true → has xs q ≡ true) → least tag xs e b ≤ least tag ys e b
least_within tag xs ys e b within = go (least-is tag ys e b) where
  go : (least tag ys e b ≡ b) ⊎ ((q : ℕ) × (has ys q ≡ true) × (q / 4 ≡ e) × (least tag ys e b ≡ tag + q % 4)) → least tag xs e b ≤ least tag ys e b
  go (inl is) = omega (arith, is, least-le tag xs e b)
  go (inr r) = omega (arith, r.3, least-le_listed tag xs r.0 e b (within r.0 r.2 r.1) r.2)

pub least_same : (tag : ℕ) (xs ys : List ℕ) (e b : ℕ) → ((q : ℕ) → q / 4 ≡ e → has xs q ≡ has ys q) → least tag xs e b ≡ least tag ys e b
least_same tag xs ys e b same = omega (arith, least_within tag xs ys e b (λ q at m. same q at ∙ m), least_within tag ys xs e b (λ q at m. sym (same q at) ∙ m))

-- taking leaves it as it is whether an edge is of this round
pub cond_same : (c : Bool) (x : ℕ) → cond c x x ≡ x
cond_same true x = refl
cond_same false x = refl

pub tag_kept : (t : ℕ) (places bytes after next next' : List ℕ) (e : ℕ) → AreTaken t places bytes after next next' → e < length bytes → eqb (get_or after e 0 / 4) (t % 2) ≡ eqb (get_or bytes e 0 / 4) (t % 2)
tag_kept t places bytes after next next' e r h = go (cases_Bool (eqb (get_or bytes e 0 / 4) (t % 2))) (least-is (tag_of (suc t)) places e (get_or bytes e 0)) where
  old : ℕ
  old = get_or bytes e 0

  go : (eqb (get_or bytes e 0 / 4) (t % 2) ≡ true) ⊎ (eqb (get_or bytes e 0 / 4) (t % 2) ≡ false)
      → (least (tag_of (suc t)) places e (get_or bytes e 0) ≡ get_or bytes e 0) ⊎ ((q : ℕ) × (has places q ≡ true) × (q / 4 ≡ e) × (least (tag_of (suc t)) places e (get_or bytes e 0) ≡ tag_of (suc t) + q % 4))
      → eqb (get_or after e 0 / 4) (t % 2) ≡ eqb (get_or bytes e 0 / 4) (t % 2)
  go (inl here) l = ap (λ n. eqb (n / 4) (t % 2)) (r.byte e h ∙ cond-true _ old (least (tag_of (suc t)) places e old) here)
  go (inr other) (inl same) = ap (λ n. eqb (n / 4) (t % 2)) (r.byte e h ∙ (cond-false _ old (least (tag_of (suc t)) places e old) other ∙ same))
  go (inr other) (inr q) =
      let now : get_or after e 0 ≡ 4 * (suc t % 2) + q.0 % 4 = r.byte e h ∙ (cond-false _ old (least (tag_of (suc t)) places e old) other ∙ q.3) in
      ne_eqb _ _ (λ s. absurd (omega (arith, s, now))) ∙ sym other

-- one more place is taken
abbrev pub byte_set : ℕ → List ℕ → ℕ → List ℕ
byte_set t now q = set now (q / 4) (cond (eqb (get_or now (q / 4) 0 / 4) (t % 2)) (get_or now (q / 4) 0) (min (get_or now (q / 4) 0) (tag_of (suc t) + q % 4)))

abbrev pub fresh_one : List ℕ → ℕ → List ℕ
fresh_one now q = cond (leb 8 (get_or now (q / 4) 0)) (q / 4 ∷ []) []

pub taken_one : (t : ℕ) (places : List ℕ) (q : ℕ) (bytes now next kept : List ℕ) → AreTaken t places bytes now next kept → q / 4 < length bytes → AreTaken t (places ++ q ∷ []) bytes (byte_set t now q) next (kept ++ fresh_one now q)
taken_one t places q bytes now next kept r h =
    taken_more t places q (q / 4) _ bytes now _ next kept _ r refl h (ap (λ c. cond c (get_or now (q / 4) 0) (min (get_or now (q / 4) 0) (tag_of (suc t) + q % 4))) (tag_kept t places bytes now next kept (q / 4) r h)) refl refl

pub taken_none : (t : ℕ) (bytes next : List ℕ) → AreTaken t [] bytes bytes next next
taken_none t bytes next = record {
  fresh = [];
  next_is = sym (append-nil next);
  apart = tt;
  members = λ e. refl;
  bytes_long = refl;
  byte = λ e h. sym (cond_same (eqb (get_or bytes e 0 / 4) (t % 2)) (get_or bytes e 0));
}

-- the room after a place is written
piece_one : (xs : List ℕ) (s n q : ℕ) → s + n < length xs → take (n + 1) (drop s (set xs (s + n) q)) ≡ take n (drop s xs) ++ q ∷ []
piece_one [] s n q h = absurd (omega arith)
piece_one (x ∷ xs) zero zero q h = refl
piece_one (x ∷ xs) zero (suc n) q h =
    let a : 0 + suc n ≡ suc (0 + n) = omega arith in
    let c : suc n + 1 ≡ suc (n + 1) = omega arith in
    rw (c, a) (ap (λ (ys : List ℕ). x ∷ ys) (piece_one xs zero n q (omega arith)))
piece_one (x ∷ xs) (suc s) n q h =
    let a : suc s + n ≡ suc (s + n) = omega arith in
    rw a (piece_one xs s n q (omega arith))

freed_here : (blocks each : ℕ) (freed : List ℕ) (b c q : ℕ) → b < blocks → c ≡ get_or freed b 0 → c < each → blocks + blocks * each ≤ length freed → freed_in blocks each (put_freed blocks each freed b c q) b ≡ freed_in blocks each freed b ++ q ∷ []
freed_here blocks each freed b c q low is free within =
    let s : ℕ = blocks + b * each in
    let inside : s + c < length freed = omega (arith, step_over b blocks each low) in
    let written : List ℕ = set freed (s + c) q in
    let count : get_or (set written b (c + 1)) b 0 ≡ c + 1 = get_or-set_same written b (c + 1) 0 (omega (arith, length-set freed (s + c) q)) in
    ap (λ k. take k (drop s (set written b (c + 1)))) count ∙ (piece_set written b (c + 1) s (c + 1) (inl (omega arith)) ∙ (piece_one freed s c q inside ∙ ap (λ k. take k (drop s freed) ++ q ∷ []) is))

freed_there : (blocks each : ℕ) (freed : List ℕ) (b c q k : ℕ) → b < blocks → k < blocks → k ≢ b → c < each → get_or freed k 0 ≤ each → (get_or (put_freed blocks each freed b c q) k 0 ≡ get_or freed k 0) × (freed_in blocks each (put_freed blocks each freed b c q) k ≡ freed_in blocks each freed k)
freed_there blocks each freed b c q k low below other free few = (count, ap (λ n. take n (drop (blocks + k * each) (put_freed blocks each freed b c q))) count ∙ (piece_set (set freed (blocks + b * each + c) q) b (c + 1) (blocks + k * each) (get_or freed k 0) (inl (omega arith)) ∙ piece_set freed (blocks + b * each + c) q (blocks + k * each) (get_or freed k 0) apart)) where
  count : get_or (put_freed blocks each freed b c q) k 0 ≡ get_or freed k 0
  count = get_or-set_other (set freed (blocks + b * each + c) q) b k (c + 1) 0 other ∙ get_or-set_other freed (blocks + b * each + c) k q 0 (λ s. omega (arith, s))

  apart : (blocks + b * each + c < blocks + k * each) ⊎ (blocks + k * each + get_or freed k 0 ≤ blocks + b * each + c)
  apart = elim (cases_lt b k) [
    | inl less ↦ inl (omega (arith, step_over b k each less))
    | inr more ↦ inr (omega (arith, step_over k b each (omega (arith, other))))
  ]

waiting_put : (many blocks each : ℕ) (freed waiting : List ℕ) (q : ℕ) → AreWaiting many blocks each freed waiting → q / 4 < many → get_or freed (q / 524288) 0 < each → AreWaiting many blocks each (put_freed blocks each freed (q / 524288) (get_or freed (q / 524288) 0) q) (waiting ++ q ∷ [])
waiting_put many blocks each freed waiting q r h free = record {
  within = omega (arith, r.within, long);
  few = omega (arith, r.few, long);
  short = r.short;
  all = r.all;
  fits = λ k low. fits k low (cases_eq k b);
  block = λ k p low m. block k p low m (cases_eq k b);
  inside = λ p m. inside p (or_cases (has waiting p) (has (q ∷ []) p) (sym (has-append waiting (q ∷ []) p) ∙ m));
  same = λ p low. same p low (cases_eq (p / 524288) b);
} where
  b : ℕ
  b = q / 524288

  c : ℕ
  c = get_or freed (q / 524288) 0

  new : List ℕ
  new = put_freed blocks each freed (q / 524288) (get_or freed (q / 524288) 0) q

  below : q / 524288 < blocks
  below = omega (arith, r.all)

  long : length new ≡ length freed
  long = length-set _ _ _ ∙ length-set _ _ _

  here : freed_in blocks each new b ≡ freed_in blocks each freed b ++ q ∷ []
  here = freed_here blocks each freed b c q below refl free r.within

  there : (k : ℕ) → k < blocks → k ≢ b → (get_or new k 0 ≡ get_or freed k 0) × (freed_in blocks each new k ≡ freed_in blocks each freed k)
  there k low other = freed_there blocks each freed b c q k below low other free (r.fits k low)

  count : get_or new b 0 ≡ c + 1
  count = get_or-set_same (set freed (blocks + b * each + c) q) b (c + 1) 0 (omega (arith, length-set freed (blocks + b * each + c) q, r.within))

  fits : (k : ℕ) → k < blocks → (k ≡ b) ⊎ (k ≡ b → ⊥) → get_or new k 0 ≤ each
  fits k low (inl at) = omega (arith, ap (λ j. get_or new j 0) at, count, free)
  fits k low (inr other) = omega (arith, (there k low other).0, r.fits k low)

  only : (p : ℕ) → has (q ∷ []) p ≡ true → q ≡ p
  only p m = elim (or_cases (eqb q p) false m) [
    | inl s ↦ eqb-true q p s
    | inr f ↦ absurd (false≢true f)
  ]

  block : (k p : ℕ) → k < blocks → has (freed_in blocks each new k) p ≡ true → (k ≡ b) ⊎ (k ≡ b → ⊥) → (p / 524288 ≡ k) × (p / 4 < many)
  block k p low m (inl at) = by (or_cases (has (freed_in blocks each freed b) p) (has (q ∷ []) p) (sym (has-append (freed_in blocks each freed b) (q ∷ []) p) ∙ (ap (λ xs. has xs p) (sym here) ∙ (ap (λ j. has (freed_in blocks each new j) p) (sym at) ∙ m)))) where
    by : (has (freed_in blocks each freed b) p ≡ true) ⊎ (has (q ∷ []) p ≡ true) → (p / 524288 ≡ k) × (p / 4 < many)
    by (inl old) = let f = r.block b p below old in (f.0 ∙ sym at, f.1)
    by (inr one) = let s = only p one in (ap (λ x. x / 524288) (sym s) ∙ sym at, subst (λ x. x / 4 < many) s h)
  block k p low m (inr other) = r.block k p low (ap (λ xs. has xs p) (sym (there k low other).1) ∙ m)

  inside : (p : ℕ) → (has waiting p ≡ true) ⊎ (has (q ∷ []) p ≡ true) → p / 4 < many
  inside p (inl m) = r.inside p m
  inside p (inr one) = subst (λ x. x / 4 < many) (only p one) h

  same : (p : ℕ) → p / 4 < many → (p / 524288 ≡ b) ⊎ (p / 524288 ≡ b → ⊥) → has (waiting ++ q ∷ []) p ≡ has (freed_in blocks each new (p / 524288)) p
  same p low (inl at) =
      has-append waiting (q ∷ []) p ∙ (ap (λ x. x || has (q ∷ []) p) (r.same p low ∙ ap (λ j. has (freed_in blocks each freed j) p) at) ∙ (sym (has-append (freed_in blocks each freed b) (q ∷ []) p) ∙ (ap (λ xs. has xs p) (sym here) ∙ ap (λ j. has (freed_in blocks each new j) p) (sym at))))
  same p low (inr other) =
      has-push_other waiting q p (λ s. other (ap (λ x. x / 524288) (sym s))) ∙ (r.same p low ∙ ap (λ xs. has xs p) (sym (there (p / 524288) (omega (arith, r.all)) other).1))

-- one more place waits
pub leads_put : (t blocks each : ℕ) (marks bytes freed after next : List ℕ) (q : ℕ) → Leads (edge_blocks t blocks each marks bytes freed) after next → q / 4 < length bytes → get_or freed (q / 524288) 0 < each → Leads (edge_blocks t blocks each marks bytes (put_freed blocks each freed (q / 524288) (get_or freed (q / 524288) 0) q)) (byte_set t after q) (next ++ fresh_one after q)
leads_put t blocks each marks bytes freed after next q r h free = record {
  all_marks = r.all_marks;
  few_marks = r.few_marks;
  old = r.old;
  waiting = r.waiting ++ q ∷ [];
  waits = waiting_put (length bytes) blocks each freed r.waiting q r.waits h free;
  fresh = r.fresh ++ fresh_one after q;
  taken = taken_one t r.waiting q bytes after [] r.fresh r.taken h;
  members = λ e. has-append next (fresh_one after q) e ∙ (ap (λ b. b || has (fresh_one after q) e) (r.members e) ∙ (or_or (is_marked marks e) (has r.fresh e) (has (fresh_one after q) e) ∙ ap (λ b. is_marked marks e || b) (sym (has-append r.fresh (fresh_one after q) e))));
} where
  or_or : (a b c : Bool) → ((a || b) || c) ≡ (a || (b || c))
  or_or true b c = refl
  or_or false b c = refl
