-- Edges that follow each other in the order are of one round if their rounds have one parity.
use Rattle.std.proofs.Common.{◌≡◌, ◌⊎◌, ◌∙◌, ℕ, zero, suc, ◌+◌, ◌-◌, ◌%◌, ◌<◌, Bool, true, false, eqb, List, [], ◌∷◌, ◌++◌, length, take, drop, sym, refl, ap, subst, inl, inr, arith}
use Rattle.std.proofs.lemmas.Bool.{both_ways, eqb-true, eq-eqb, or_cases, or_left, or_right, false≢true}
use Rattle.cm_spec.specs.Graph.{ends_at}
use Rattle.cm_spec.specs.Lists.{has}
use Rattle.cm_spec.specs.Rounds.{removed_after, order_upto, order_of, level_of}
use Rattle.cm_spec.specs.Cells.{Plan, pivot_vertex, at_once}
use Rattle.cm_peel.specs.SetLaws.{AreApart}
use Rattle.cm_peel.specs.RoundLaws.{none_after}
use Rattle.cm_algo_cells.specs.OneByOne.{one_by_one}
use Rattle.cm_algo_cells.proofs.Alone.{removed_level}
use Rattle.cm_algo_cells.proofs.InPlace.{at_once_is, free_round, rounds, rounds_are}
use Rattle.cm_algo_cells.proofs.Solving.{Apart, apart-order, in_round, order_removed}

-- each level is the one before it or the next
abbrev pub AreSteps : List (List ℕ) → ℕ → List ℕ → Type 0
AreSteps edges l [] = Unit {0}
AreSteps edges l (e ∷ es) = ((level_of edges e ≡ l) ⊎ (level_of edges e ≡ suc l)) × AreSteps edges (level_of edges e) es

steps_round : (edges : List (List ℕ)) (l : ℕ) (es rest : List ℕ) → ((e : ℕ) → has es e ≡ true → level_of edges e ≡ l) → AreSteps edges l rest → AreSteps edges l (es ++ rest)
steps_round edges l [] rest all steps = steps
steps_round edges l (e ∷ es) rest all steps =
    let is : level_of edges e ≡ l = all e (or_left _ _ (eq-eqb e e refl)) in
    (inl is, subst (λ k. AreSteps edges k (es ++ rest)) (sym is) (steps_round edges l es rest (λ f m. all f (or_right (eqb e f) (has es f) m)) steps))

none_later : (edges : List (List ℕ)) (d t : ℕ) → removed_after edges t ≡ [] → rounds edges d (suc t) ≡ []
none_later edges zero t none = refl
none_later edges (suc d) t none =
    let now = none_after edges t none in
    ap (λ (xs : List ℕ). xs ++ rounds edges d (suc (suc t))) now ∙ none_later edges d (suc t) now

steps_rounds : (edges : List (List ℕ)) (d t : ℕ) → AreSteps edges t (rounds edges d t)
steps_rounds edges zero t = tt
steps_rounds edges (suc d) t = go (removed_after edges t) refl (steps_rounds edges d (suc t)) where
  go : (xs : List ℕ) → removed_after edges t ≡ xs → AreSteps edges (suc t) (rounds edges d (suc t)) → AreSteps edges t (removed_after edges t ++ rounds edges d (suc t))
  go [] is ih = subst (AreSteps edges t) (sym (ap (λ (xs : List ℕ). xs ++ rounds edges d (suc t)) is ∙ none_later edges d t is)) tt
  go (e ∷ es) is ih =
      let all : (f : ℕ) → has (e ∷ es) f ≡ true → level_of edges f ≡ suc t = λ f m. removed_level edges t f (ap (λ (xs : List ℕ). has xs f) is ∙ m) in
      let first : level_of edges e ≡ suc t = all e (or_left _ _ (eq-eqb e e refl)) in
      subst (AreSteps edges t) (sym (ap (λ (xs : List ℕ). xs ++ rounds edges d (suc t)) is))
      (inr first, subst (λ k. AreSteps edges k (es ++ rounds edges d (suc t))) (sym first) (steps_round edges (suc t) es (rounds edges d (suc t)) (λ f m. all f (or_right (eqb e f) (has es f) m)) ih))

steps_order : (edges : List (List ℕ)) → AreSteps edges 0 (order_of edges)
steps_order edges = subst (AreSteps edges 0) (rounds_are edges (length edges) 0 ∙ (let s : length edges + 0 ≡ length edges = omega arith in ap (order_upto edges) s)) (steps_rounds edges (length edges) 0)

-- a part of a list
steps_drop : (edges : List (List ℕ)) (n l : ℕ) (xs : List ℕ) → AreSteps edges l xs → (k : ℕ) × AreSteps edges k (drop n xs)
steps_drop edges zero l xs steps = (l, steps)
steps_drop edges (suc n) l [] steps = (l, tt)
steps_drop edges (suc n) l (x ∷ xs) steps = steps_drop edges n (level_of edges x) xs steps.1

steps_take : (edges : List (List ℕ)) (n l : ℕ) (xs : List ℕ) → AreSteps edges l xs → AreSteps edges l (take n xs)
steps_take edges zero l xs steps = tt
steps_take edges (suc n) l [] steps = tt
steps_take edges (suc n) l (x ∷ xs) steps = (steps.0, steps_take edges n (level_of edges x) xs steps.1)

has_drop : (n : ℕ) (xs : List ℕ) (e : ℕ) → has (drop n xs) e ≡ true → has xs e ≡ true
has_drop zero xs e m = m
has_drop (suc n) [] e m = m
has_drop (suc n) (x ∷ xs) e m = or_right (eqb x e) (has xs e) (has_drop n xs e m)

has_take : (n : ℕ) (xs : List ℕ) (e : ℕ) → has (take n xs) e ≡ true → has xs e ≡ true
has_take zero xs e m = absurd (false≢true m)
has_take (suc n) [] e m = m
has_take (suc n) (x ∷ xs) e m = go (or_cases (eqb x e) (has (take n xs) e) m) (has_take n xs e) where
  go : (eqb x e ≡ true) ⊎ (has (take n xs) e ≡ true) → (has (take n xs) e ≡ true → has xs e ≡ true) → has (x ∷ xs) e ≡ true
  go (inl same) ih = or_left _ _ same
  go (inr later) ih = or_right (eqb x e) (has xs e) (ih later)

-- the order has no edge twice
apart_distinct : (edges : List (List ℕ)) (es : List ℕ) → Apart edges es → ((e : ℕ) → has es e ≡ true → has (ends_at edges e) (pivot_vertex edges e) ≡ true) → AreApart es
apart_distinct edges [] apart touching = tt
apart_distinct edges (e ∷ es) apart touching = (
  go (has es e) refl,
  apart_distinct edges es apart.1 (λ f m. touching f (or_right (eqb e f) (has es f) m)),
) where
  go : (b : Bool) → has es e ≡ b → has es e ≡ false
  go true there = absurd (both_ways _ (apart.0 e there) (touching e (or_left _ _ (eq-eqb e e refl))))
  go false is = is

distinct_drop : (n : ℕ) (xs : List ℕ) → AreApart xs → AreApart (drop n xs)
distinct_drop zero xs distinct = distinct
distinct_drop (suc n) [] distinct = tt
distinct_drop (suc n) (x ∷ xs) distinct = distinct_drop n xs distinct.1

distinct_take : (n : ℕ) (xs : List ℕ) → AreApart xs → AreApart (take n xs)
distinct_take zero xs distinct = tt
distinct_take (suc n) [] distinct = tt
distinct_take (suc n) (x ∷ xs) distinct = (go (has (take n xs) x) refl, distinct_take n xs distinct.1) where
  go : (b : Bool) → has (take n xs) x ≡ b → has (take n xs) x ≡ false
  go true there = absurd (both_ways _ distinct.0 (has_take n xs x there))
  go false is = is

-- of one parity is of one level
one_level : (edges : List (List ℕ)) (parity l : ℕ) (es : List ℕ) → 0 < l → (l - 1) % 2 ≡ parity → AreSteps edges l es → ((e : ℕ) → has es e ≡ true → (level_of edges e - 1) % 2 ≡ parity) → (e : ℕ) → has es e ≡ true → level_of edges e ≡ l
one_level edges parity l [] some here steps same e m = absurd (false≢true m)
one_level edges parity l (x ∷ xs) some here steps same e m =
    let is : level_of edges x ≡ l = next steps.0 (same x (or_left _ _ (eq-eqb x x refl))) in
    let later = one_level edges parity l xs some here (subst (λ k. AreSteps edges k xs) is steps.1) (λ f n. same f (or_right (eqb x f) (has xs f) n)) in
    go is (or_cases (eqb x e) (has xs e) m) (later e) where
      next : (level_of edges x ≡ l) ⊎ (level_of edges x ≡ suc l) → (level_of edges x - 1) % 2 ≡ parity → level_of edges x ≡ l
      next (inl is) odd = is
      next (inr is) odd = absurd (omega arith)

      go : level_of edges x ≡ l → (eqb x e ≡ true) ⊎ (has xs e ≡ true) → (has xs e ≡ true → level_of edges e ≡ l) → level_of edges e ≡ l
      go is (inl at) ih = subst (λ y. level_of edges y ≡ l) (eqb-true x e at) is
      go is (inr later) ih = ih later

same_level : (edges : List (List ℕ)) (parity l : ℕ) (es : List ℕ) → AreSteps edges l es → ((e : ℕ) → has es e ≡ true → 0 < level_of edges e) → ((e : ℕ) → has es e ≡ true → (level_of edges e - 1) % 2 ≡ parity) → (u : ℕ) × ((e : ℕ) → has es e ≡ true → level_of edges e ≡ suc u)
same_level edges parity l [] steps some same = (0, λ e m. absurd (false≢true m))
same_level edges parity l (x ∷ xs) steps some same =
    let here : has (x ∷ xs) x ≡ true = or_left _ _ (eq-eqb x x refl) in
    let k : ℕ = level_of edges x in
    let above : 0 < k = some x here in
    let up : suc (k - 1) ≡ k = omega arith in
    (k - 1, λ e m. one_level edges parity k (x ∷ xs) above (same x here) (inl refl, steps.1) same e m ∙ sym up)

-- edges of a part of the order whose rounds have one parity
pub one_round : (p : Plan) (before : List ℕ) (at n parity : ℕ) → ((e : ℕ) → has (take n (drop at (order_of p.edges))) e ≡ true → (level_of p.edges e - 1) % 2 ≡ parity)
    → one_by_one p before (take n (drop at (order_of p.edges))) ≡ at_once p before (take n (drop at (order_of p.edges)))
one_round p before at n parity same =
    let edges : List (List ℕ) = p.edges in
    let order : List ℕ = order_of edges in
    let part : List ℕ = take n (drop at order) in
    let within : (e : ℕ) → has part e ≡ true → has order e ≡ true = λ e m. has_drop at order e (has_take n (drop at order) e m) in
    let from = steps_drop edges at 0 order (steps_order edges) in
    let removed = λ (e : ℕ) (m : has part e ≡ true). order_removed edges (length edges) e (within e m) in
    let level = same_level edges parity from.0 part (steps_take edges n from.0 (drop at order) from.1) (λ e m. (removed e m).level) same in
    let distinct : AreApart order = apart_distinct edges order (apart-order edges) (λ e m. (order_removed edges (length edges) e m).touching) in
    at_once_is p before part (free_round edges level.0 part (λ e m.
    let r = in_round edges (length edges) e (within e m) in
    let u : r.0 ≡ level.0 = omega (arith, removed_level edges r.0 e r.1, level.1 e m) in
    subst (λ k. has (removed_after edges k) e ≡ true) u r.1) (distinct_take n (drop at order) (distinct_drop at order distinct)))
