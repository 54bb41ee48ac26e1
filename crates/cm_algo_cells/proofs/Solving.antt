-- What the cells solve, and the steps of the loop.
use Rattle.std.proofs.Common.{◌≡◌, ◌≢◌, ◌⊎◌, ℕ, zero, suc, ◌+◌, ◌-◌, ◌*◌, ◌/◌, ◌%◌, ◌<◌, ◌≤◌, Bool, true, false, cond, not, eqb, ◌&&◌, ◌||◌, List, [], ◌∷◌, ◌++◌, length, get_or, set, take, drop, map, sym, refl, ap, ◌∙◌, subst, inl, inr, arith}
use Rattle.std.specs.List.{All, AllPairs, sum_by, count_by}
use Rattle.std.proofs.lemmas.Bool.{both_ways, cases_Bool, cases_eq, eqb-true, eq-eqb, ne_eqb, or_cases, or_left, or_right, false≢true}
use Rattle.std.proofs.lemmas.List.Sums.{sum_by-cons, sum_by-set}
use Rattle.std.proofs.lemmas.List.Folds.{list_any-append, Any-from_list_any, sum_by-replicate}
use Rattle.std.proofs.lemmas.List.{drop-drop, take-append-drop, get_or-map, length-map, get_or-set_same, get_or-set_other, get_or-replicate, length-replicate}
use Rattle.std.proofs.lemmas.Nat.{mod_below}
use Rattle.std.proofs.Math.Nat.{mod-eq_of_lt, div-add-mod, add-mul-mod_self_left, mul-add}
use Rattle.cm_spec.specs.Graph.{ends_at}
use Rattle.cm_spec.specs.Lists.{has}
use Rattle.cm_spec.specs.Rounds.{left_after, removed_after, rest_of, order_upto, order_of, pivot_of, level_of, is_held}
use Rattle.cm_peel.specs.SetLaws.{AreApart, Rises, rises_below, has-filter}
use Rattle.cm_peel.specs.CoreLaws.{left_after-zero, left_after-suc}
use Rattle.cm_peel.specs.RoundLaws.{removed_rises, removed_is_left, has_place, has_removed, length-order}
use Rattle.cm_spec.specs.Graph.{AreEdges}
use Rattle.cm_algo_cells.specs.OneByOne.{one_by_one}
use Rattle.cm_spec.specs.Cells.{plan_of, Plan, pivot_vertex, cell_but, sum_but, completing, value_at, at_once, cells_of, all_idle, is_busy, AreSolved}
use Rattle.cm_spec.specs.Rule.{Rule, IsRule, IsCount}
use Rattle.cm_algo_cells.proofs.Alone.{alone, left_before, removed_not_left, removed_place, removed_level, pivot_at}
use Rattle.cm_algo_cells.proofs.InPlace.{kept, length-one_by_one, one_by_one-append, rounds, rounds_are, sum_by-agree, cells_are}

-- an edge that some round removes
pub record IsRemoved (edges : List (List ℕ)) (e : ℕ) : Type 0 where
  pub place : e < length edges
  pub level : 0 < level_of edges e
  pub within : pivot_of edges e < length (ends_at edges e)
  pub touching : has (ends_at edges e) (pivot_vertex edges e) ≡ true

removed_is : (edges : List (List ℕ)) (t e : ℕ) → has (removed_after edges t) e ≡ true → IsRemoved edges e
removed_is edges t e h =
    let p = pivot_at edges t e h in
    record { place = removed_place edges t e h; level = omega (arith, removed_level edges t e h); within = p.within; touching = p.touching }

-- the round of an edge in the order
pub in_round : (edges : List (List ℕ)) (t e : ℕ) → has (order_upto edges t) e ≡ true → (u : ℕ) × (has (removed_after edges u) e ≡ true)
in_round edges zero e h = absurd (false≢true h)
in_round edges (suc t) e h = go (or_cases (has (order_upto edges t) e) (has (removed_after edges t) e) (sym (list_any-append (λ x. eqb x e) (order_upto edges t) (removed_after edges t)) ∙ h)) (in_round edges t e) where
  go : (has (order_upto edges t) e ≡ true) ⊎ (has (removed_after edges t) e ≡ true) → (has (order_upto edges t) e ≡ true → (u : ℕ) × (has (removed_after edges u) e ≡ true)) → (u : ℕ) × (has (removed_after edges u) e ≡ true)
  go (inl before) ih = ih before
  go (inr now) ih = (t, now)

pub order_removed : (edges : List (List ℕ)) (t e : ℕ) → has (order_upto edges t) e ≡ true → IsRemoved edges e
order_removed edges t e h = let r = in_round edges t e h in removed_is edges r.0 e r.1

has_at : (xs : List ℕ) (i : ℕ) → i < length xs → has xs (get_or xs i 0) ≡ true
has_at [] i h = absurd (omega arith)
has_at (x ∷ xs) zero h = or_left _ _ (eq-eqb x x refl)
has_at (x ∷ xs) (suc i) h = or_right (eqb x (get_or xs i 0)) _ (has_at xs i (omega arith))

pub order_at : (edges : List (List ℕ)) (order : List ℕ) (i : ℕ) → order ≡ order_of edges → i < length order → IsRemoved edges (get_or order i 0)
order_at edges order i is h = order_removed edges (length edges) (get_or order i 0) (ap (λ xs. has xs (get_or order i 0)) (sym is) ∙ has_at order i h)

-- all edges are in the order if none is left
pub all_removed : (edges : List (List ℕ)) (t e : ℕ) → e < length edges → has (left_after edges t) e ≡ false → has (order_upto edges t) e ≡ true
all_removed edges zero e h gone = absurd (both_ways _ gone (ap (λ s. has s e) (left_after-zero edges) ∙ has_place edges e h))
all_removed edges (suc t) e h gone = list_any-append (λ x. eqb x e) (order_upto edges t) (removed_after edges t) ∙ go (cases_Bool (has (left_after edges t) e)) (all_removed edges t e h) where
  not_both : (a b : Bool) → a ≡ true → (a && b) ≡ false → (a && not b) ≡ true
  not_both true true p q = absurd (false≢true (sym q))
  not_both true false p q = refl
  not_both false b p q = absurd (false≢true p)

  go : (has (left_after edges t) e ≡ true) ⊎ (has (left_after edges t) e ≡ false) → (has (left_after edges t) e ≡ false → has (order_upto edges t) e ≡ true) → (has (order_upto edges t) e || has (removed_after edges t) e) ≡ true
  go (inr before) ih = or_left _ _ (ih before)
  go (inl there) ih =
      let both : (has (left_after edges t) e && is_held edges (left_after edges t) e) ≡ false = sym (has-filter (is_held edges (left_after edges t)) (left_after edges t) e) ∙ (ap (λ s. has s e) (sym (left_after-suc edges t)) ∙ gone) in
      or_right (has (order_upto edges t) e) _ (has_removed edges t e ∙ not_both _ _ there both)

-- the pivot's vertex of an edge is an end of no later one in the list
abbrev pub Apart : List (List ℕ) → List ℕ → Type 0
Apart edges [] = Unit {0}
Apart edges (e ∷ es) = ((f : ℕ) → has es f ≡ true → has (ends_at edges f) (pivot_vertex edges e) ≡ false) × Apart edges es

apart-append : (edges : List (List ℕ)) (xs ys : List ℕ) → Apart edges xs → Apart edges ys → ((e f : ℕ) → has xs e ≡ true → has ys f ≡ true → has (ends_at edges f) (pivot_vertex edges e) ≡ false) → Apart edges (xs ++ ys)
apart-append edges [] ys a b h = b
apart-append edges (x ∷ xs) ys a b h = (
  λ f m. go f (or_cases (has xs f) (has ys f) (sym (list_any-append (λ x. eqb x f) xs ys) ∙ m)),
  apart-append edges xs ys a.1 b (λ e f m n. h e f (or_right (eqb x e) (has xs e) m) n),
) where
  go : (f : ℕ) → (has xs f ≡ true) ⊎ (has ys f ≡ true) → has (ends_at edges f) (pivot_vertex edges x) ≡ false
  go f (inl m) = a.0 f m
  go f (inr n) = h x f (or_left _ _ (eq-eqb x x refl)) n

apart-round : (edges : List (List ℕ)) (t : ℕ) → Apart edges (removed_after edges t)
apart-round edges t = go 0 (removed_after edges t) (removed_rises edges t) (λ e m. m) where
  go : (low : ℕ) (es : List ℕ) → Rises low es → ((e : ℕ) → has es e ≡ true → has (removed_after edges t) e ≡ true) → Apart edges es
  go low [] r h = tt
  go low (e ∷ es) r h = (
    λ f m. alone edges t e f (h e (or_left _ _ (eq-eqb e e refl))) (removed_is_left edges t f (h f (or_right (eqb e f) (has es f) m))) (λ s. both_ways _ (rises_below (suc e) f es r.1 (omega (arith, s))) m),
    go (suc e) es r.1 (λ f m. h f (or_right (eqb e f) (has es f) m)),
  )

later_left : (edges : List (List ℕ)) (d t f : ℕ) → has (rounds edges d t) f ≡ true → has (left_after edges t) f ≡ true
later_left edges zero t f m = absurd (false≢true m)
later_left edges (suc d) t f m = go (or_cases (has (removed_after edges t) f) (has (rounds edges d (suc t)) f) (sym (list_any-append (λ x. eqb x f) (removed_after edges t) (rounds edges d (suc t))) ∙ m)) (later_left edges d (suc t) f) where
  go : (has (removed_after edges t) f ≡ true) ⊎ (has (rounds edges d (suc t)) f ≡ true) → (has (rounds edges d (suc t)) f ≡ true → has (left_after edges (suc t)) f ≡ true) → has (left_after edges t) f ≡ true
  go (inl now) ih = removed_is_left edges t f now
  go (inr later) ih = left_before edges t f (ih later)

apart-rounds : (edges : List (List ℕ)) (d t : ℕ) → Apart edges (rounds edges d t)
apart-rounds edges zero t = tt
apart-rounds edges (suc d) t = apart-append edges (removed_after edges t) (rounds edges d (suc t)) (apart-round edges t) (apart-rounds edges d (suc t))
    (λ e f m n. alone edges t e f m (left_before edges t f (later_left edges d (suc t) f n)) (λ s. both_ways _ (removed_not_left edges t e m) (subst (λ x. has (left_after edges (suc t)) x ≡ true) s (later_left edges d (suc t) f n))))

pub apart-order : (edges : List (List ℕ)) → Apart edges (order_of edges)
apart-order edges =
    subst (Apart edges) (rounds_are edges (length edges) 0 ∙ (let s : length edges + 0 ≡ length edges = omega arith in ap (order_upto edges) s)) (apart-rounds edges (length edges) 0)

-- so no two of its edges have the same vertex at their pivots
no_end : (edges : List (List ℕ)) (e f : ℕ) → has (ends_at edges f) (pivot_vertex edges e) ≡ false → has (ends_at edges f) (pivot_vertex edges f) ≡ true → pivot_vertex edges e ≡ pivot_vertex edges f → ⊥
no_end edges e f apart touches same = both_ways _ apart (ap (has (ends_at edges f)) same ∙ touches)

apart_in : (edges : List (List ℕ)) (es : List ℕ) → Apart edges es → ((e : ℕ) → has es e ≡ true → has (ends_at edges e) (pivot_vertex edges e) ≡ true) → (e f : ℕ) → has es e ≡ true → has es f ≡ true → pivot_vertex edges e ≡ pivot_vertex edges f → e ≡ f
apart_in edges [] apart touches e f there there' same = absurd (false≢true there)
apart_in edges (x ∷ xs) apart touches e f there there' same =
    go (or_cases (eqb x e) (has xs e) there) (or_cases (eqb x f) (has xs f) there') (λ m n. apart_in edges xs apart.1 (λ g h. touches g (or_right (eqb x g) (has xs g) h)) e f m n same) where
      go : (eqb x e ≡ true) ⊎ (has xs e ≡ true) → (eqb x f ≡ true) ⊎ (has xs f ≡ true) → (has xs e ≡ true → has xs f ≡ true → e ≡ f) → e ≡ f
      go (inl a) (inl b) ih = sym (eqb-true x e a) ∙ eqb-true x f b
      go (inl a) (inr n) ih = absurd (no_end edges x f (apart.0 f n) (touches f (or_right (eqb x f) (has xs f) n)) (ap (pivot_vertex edges) (eqb-true x e a) ∙ same))
      go (inr m) (inl b) ih = absurd (no_end edges x e (apart.0 e m) (touches e (or_right (eqb x e) (has xs e) m)) (ap (pivot_vertex edges) (eqb-true x f b) ∙ sym same))
      go (inr m) (inr n) ih = ih m n

pivots_apart : (edges : List (List ℕ)) (e f : ℕ) → has (order_of edges) e ≡ true → has (order_of edges) f ≡ true → pivot_vertex edges e ≡ pivot_vertex edges f → e ≡ f
pivots_apart edges = apart_in edges (order_of edges) (apart-order edges) (λ e m. (order_removed edges (length edges) e m).touching)

-- sums
pub distinct-from : (xs : List ℕ) → AllPairs (λ u v. u ≢ v) xs → AreApart xs
distinct-from [] h = tt
distinct-from (x ∷ xs) h = (go (cases_Bool (has xs x)), distinct-from xs (λ i j d l m. h (suc i) (suc j) d (omega arith) (omega arith))) where
  go : (has xs x ≡ true) ⊎ (has xs x ≡ false) → has xs x ≡ false
  go (inr no') = no'
  go (inl there) =
      let a = Any-from_list_any (λ y. eqb y x) xs there in
      let same : a.1 ≡ x = eqb-true a.1 x a.4 in
      absurd (h 0 (suc a.0) a.1 (omega arith) (omega (arith, a.2)) (sym (a.3 ∙ same)))

sum_without : (cells ends : List ℕ) (v : ℕ) → has ends v ≡ false → sum_but cells v ends ≡ sum_by (λ u. get_or cells u 0) ends
sum_without cells ends v h = sum_by-agree (cell_but cells v) (λ u. get_or cells u 0) ends (λ u m. go u m (cases_eq u v)) where
  go : (u : ℕ) → has ends u ≡ true → (u ≡ v) ⊎ (u ≡ v → ⊥) → cell_but cells v u ≡ get_or cells u 0
  go u m (inl same) = absurd (both_ways _ h (subst (λ w. has ends w ≡ true) same m))
  go u m (inr other) = let f : eqb u v ≡ false = ne_eqb _ _ other in rw f refl

pub sum_split : (cells ends : List ℕ) (v : ℕ) → AreApart ends → has ends v ≡ true → sum_by (λ u. get_or cells u 0) ends ≡ get_or cells v 0 + sum_but cells v ends
sum_split cells [] v d m = absurd (false≢true m)
sum_split cells (x ∷ xs) v d m = go (cases_eq x v) (sum_split cells xs v d.1) where
  go : (x ≡ v) ⊎ (x ≡ v → ⊥) → (has xs v ≡ true → sum_by (λ u. get_or cells u 0) xs ≡ get_or cells v 0 + sum_but cells v xs) → sum_by (λ u. get_or cells u 0) (x ∷ xs) ≡ get_or cells v 0 + sum_but cells v (x ∷ xs)
  go (inl same) ih =
      let t : eqb x v ≡ true = eq-eqb _ _ same in
      let z : cell_but cells v x ≡ 0 = rw t refl in
      let none : sum_but cells v xs ≡ sum_by (λ u. get_or cells u 0) xs = sum_without cells xs v (ap (has xs) (sym same) ∙ d.0) in
      let c : get_or cells x 0 ≡ get_or cells v 0 = ap (λ u. get_or cells u 0) same in
      omega (arith, sum_by-cons (λ u. get_or cells u 0) x xs, sum_by-cons (cell_but cells v) x xs)
  go (inr other) ih =
      let f : eqb x v ≡ false = ne_eqb _ _ other in
      let z : cell_but cells v x ≡ get_or cells x 0 = rw f refl in
      let more : has xs v ≡ true = rw f at m in
      omega (arith, sum_by-cons (λ u. get_or cells u 0) x xs, sum_by-cons (cell_but cells v) x xs, ih more)

-- the value completes the sum
pub completing_below : (modulus target sum : ℕ) → 0 < modulus → completing modulus target sum < modulus
unfolding completing
completing_below modulus target sum h = mod_below (target + (modulus - sum % modulus)) modulus h

pub completes : (modulus target sum : ℕ) → target < modulus → (completing modulus target sum + sum) % modulus ≡ target
unfolding completing
completes modulus target sum h =
    let low : sum % modulus < modulus = mod_below sum modulus (omega arith) in
    let a : ℕ = target + (modulus - sum % modulus) in
    let q : ℕ = a / modulus in
    let r : ℕ = sum / modulus in
    let whole : a % modulus + sum + modulus * q ≡ target + modulus * (r + 1) =
    omega (arith, div-add-mod a modulus, div-add-mod sum modulus, mul-add modulus r 1) in
    sym (add-mul-mod_self_left (a % modulus + sum) modulus q) ∙ (ap (λ n. n % modulus) whole ∙ (add-mul-mod_self_left target modulus (r + 1) ∙ mod-eq_of_lt h))

-- each edge of the list is solved
pub record Solves (p : Plan) (es cells : List ℕ) : Type 0 where
  pub sums : (e : ℕ) → has es e ≡ true → sum_by (λ u. get_or cells u 0) (ends_at p.edges e) % p.modulus ≡ p.target e
  pub below : (e : ℕ) → has es e ≡ true → get_or cells (pivot_vertex p.edges e) 0 < p.modulus

-- what an edge has to have
pub record IsFit (p : Plan) (e : ℕ) : Type 0 where
  pub touching : has (ends_at p.edges e) (pivot_vertex p.edges e) ≡ true
  pub within : pivot_vertex p.edges e < p.vertices
  pub distinct : AreApart (ends_at p.edges e)
  pub target : p.target e < p.modulus

untouched : (cells ends : List ℕ) (v x : ℕ) → has ends v ≡ false → sum_by (λ u. get_or (set cells v x) u 0) ends ≡ sum_by (λ u. get_or cells u 0) ends
untouched cells ends v x h = sum_by-agree (λ u. get_or (set cells v x) u 0) (λ u. get_or cells u 0) ends (λ u m. get_or-set_other cells v u x 0 (λ s. both_ways _ h (subst (λ w. has ends w ≡ true) s m)))

sum_but-set : (cells ends : List ℕ) (v x : ℕ) → sum_but (set cells v x) v ends ≡ sum_but cells v ends
sum_but-set cells ends v x = sum_by-agree (cell_but (set cells v x) v) (cell_but cells v) ends (λ u m. go u (cases_eq u v)) where
  go : (u : ℕ) → (u ≡ v) ⊎ (u ≡ v → ⊥) → cell_but (set cells v x) v u ≡ cell_but cells v u
  go u (inl same) = let t : eqb u v ≡ true = eq-eqb _ _ same in rw t refl
  go u (inr other) = let f : eqb u v ≡ false = ne_eqb _ _ other in rw f (get_or-set_other cells v u x 0 other)

pub solved : (p : Plan) (es : List ℕ) → Apart p.edges es → ((e : ℕ) → has es e ≡ true → IsFit p e) → Solves p es (one_by_one p (all_idle p) es)
solved p [] a h = record { sums = λ e m. absurd (false≢true m); below = λ e m. absurd (false≢true m) }
solved p (e ∷ es) a h =
    let cells : List ℕ = one_by_one p (all_idle p) es in
    let ih : Solves p es cells = solved p es a.1 (λ f m. h f (or_right (eqb e f) (has es f) m)) in
    let v : ℕ = pivot_vertex p.edges e in
    let x : ℕ = value_at p cells e in
    let fit : IsFit p e = h e (or_left _ _ (eq-eqb e e refl)) in
    let long : length cells ≡ p.vertices = length-one_by_one p (all_idle p) es ∙ length-replicate p.vertices p.idle in
    let here : get_or (set cells v x) v 0 ≡ x = get_or-set_same cells v x 0 (omega (arith, fit.within)) in
    let whole : sum_by (λ u. get_or (set cells v x) u 0) (ends_at p.edges e) ≡ x + sum_but cells v (ends_at p.edges e) =
    sum_split (set cells v x) (ends_at p.edges e) v fit.distinct fit.touching ∙ (ap (λ n. n + sum_but (set cells v x) v (ends_at p.edges e)) here ∙ ap (λ n. x + n) (sum_but-set cells (ends_at p.edges e) v x)) in
    let first : sum_by (λ u. get_or (set cells v x) u 0) (ends_at p.edges e) % p.modulus ≡ p.target e = ap (λ n. n % p.modulus) whole ∙ completes p.modulus (p.target e) (sum_but cells v (ends_at p.edges e)) fit.target in
    let first_below : get_or (set cells v x) v 0 < p.modulus = subst (λ n. n < p.modulus) (sym here) (completing_below p.modulus (p.target e) (sum_but cells v (ends_at p.edges e)) (omega (arith, fit.target))) in
    record {
      sums = λ f m. go₁ cells x first ih f (or_cases (eqb e f) (has es f) m);
      below = λ f m. go₂ cells x first_below ih f (or_cases (eqb e f) (has es f) m);
    } where
      go₁ : (cells : List ℕ) (x : ℕ) → sum_by (λ u. get_or (set cells (pivot_vertex p.edges e) x) u 0) (ends_at p.edges e) % p.modulus ≡ p.target e → Solves p es cells → (f : ℕ) → (eqb e f ≡ true) ⊎ (has es f ≡ true)
          → sum_by (λ u. get_or (set cells (pivot_vertex p.edges e) x) u 0) (ends_at p.edges f) % p.modulus ≡ p.target f
      go₁ cells x first ih f (inl same) = subst (λ y. sum_by (λ u. get_or (set cells (pivot_vertex p.edges e) x) u 0) (ends_at p.edges y) % p.modulus ≡ p.target y) (eqb-true e f same) first
      go₁ cells x first ih f (inr more) = ap (λ n. n % p.modulus) (untouched cells (ends_at p.edges f) (pivot_vertex p.edges e) x (a.0 f more)) ∙ ih.sums f more

      go₂ : (cells : List ℕ) (x : ℕ) → get_or (set cells (pivot_vertex p.edges e) x) (pivot_vertex p.edges e) 0 < p.modulus → Solves p es cells → (f : ℕ) → (eqb e f ≡ true) ⊎ (has es f ≡ true)
          → get_or (set cells (pivot_vertex p.edges e) x) (pivot_vertex p.edges f) 0 < p.modulus
      go₂ cells x first ih f (inl same) = subst (λ y. get_or (set cells (pivot_vertex p.edges e) x) (pivot_vertex p.edges y) 0 < p.modulus) (eqb-true e f same) first
      go₂ cells x first ih f (inr more) =
          let fit : IsFit p f = h f (or_right (eqb e f) (has es f) more) in
          let other : pivot_vertex p.edges f ≢ pivot_vertex p.edges e = λ s. both_ways _ (a.0 f more) (subst (λ w. has (ends_at p.edges f) w ≡ true) s fit.touching) in
          subst (λ n. n < p.modulus) (sym (get_or-set_other cells (pivot_vertex p.edges e) (pivot_vertex p.edges f) x 0 other)) (ih.below f more)

busy_more : (p : Plan) (e : ℕ) (es : List ℕ) → Apart p.edges (e ∷ es) → ((f : ℕ) → has (e ∷ es) f ≡ true → IsFit p f) → p.modulus ≤ p.idle
    → count_by (is_busy p.idle) (one_by_one p (all_idle p) es) ≡ length es → count_by (is_busy p.idle) (one_by_one p (all_idle p) (e ∷ es)) ≡ suc (length es)
busy_more p e es a h le ih =
    let cells : List ℕ = one_by_one p (all_idle p) es in
    let v : ℕ = pivot_vertex p.edges e in
    let x : ℕ = value_at p cells e in
    let fit : IsFit p e = h e (or_left _ _ (eq-eqb e e refl)) in
    let long : length cells ≡ p.vertices = length-one_by_one p (all_idle p) es ∙ length-replicate p.vertices p.idle in
    let other : (f : ℕ) → has es f ≡ true → pivot_vertex p.edges f ≢ v = λ f m s. both_ways _ (a.0 f m) (subst (λ w. has (ends_at p.edges f) w ≡ true) s (h f (or_right (eqb e f) (has es f) m)).touching) in
    let before : get_or cells v 0 ≡ p.idle = kept p (all_idle p) es v other ∙ get_or-replicate p.vertices v p.idle 0 fit.within in
    let low : x < p.modulus = completing_below p.modulus (p.target e) (sum_but cells v (ends_at p.edges e)) (omega (arith, fit.target)) in
    let now : cond {A = ℕ} (is_busy p.idle x) 1 0 ≡ 1 = ap (λ (b : Bool). cond {A = ℕ} (not b) 1 0) (ne_eqb x p.idle (λ s. absurd (omega arith))) in
    let was : cond {A = ℕ} (is_busy p.idle (get_or cells v 0)) 1 0 ≡ 0 = ap (λ (b : Bool). cond {A = ℕ} (not b) 1 0) (eq-eqb (get_or cells v 0) p.idle before) in
    omega (arith, sum_by-set (λ y. cond {A = ℕ} (is_busy p.idle y) 1 0) cells v x 0 (omega (arith, fit.within)), ih)

pub busy_are : (p : Plan) (es : List ℕ) → Apart p.edges es → ((e : ℕ) → has es e ≡ true → IsFit p e) → p.modulus ≤ p.idle → count_by (is_busy p.idle) (one_by_one p (all_idle p) es) ≡ length es
busy_are p [] a h le =
    let none : cond {A = ℕ} (is_busy p.idle p.idle) 1 0 ≡ 0 = ap (λ (b : Bool). cond {A = ℕ} (not b) 1 0) (eq-eqb p.idle p.idle refl) in
    sum_by-replicate (λ y. cond {A = ℕ} (is_busy p.idle y) 1 0) p.vertices p.idle ∙ (ap (λ (n : ℕ). p.vertices * n) none ∙ omega arith)
busy_are p (e ∷ es) a h le = busy_more p e es a h le (busy_are p es a.1 (λ f m. h f (or_right (eqb e f) (has es f) m)) le)

pub cells_solved : (p : Plan) → rest_of p.edges ≡ [] → ((e : ℕ) → IsRemoved p.edges e → IsFit p e) → AreSolved p (cells_of p)
cells_solved p none h =
    subst (AreSolved p) (sym (cells_are p)) (
    let s : Solves p (order_of p.edges) (one_by_one p (all_idle p) (order_of p.edges)) = solved p (order_of p.edges) (apart-order p.edges) (λ e m. h e (order_removed p.edges (length p.edges) e m)) in
    record {
      long = length-one_by_one p (all_idle p) (order_of p.edges) ∙ length-replicate p.vertices p.idle;
      sums = λ e l. s.sums e (there e l);
      within = λ e l. (h e (order_removed p.edges (length p.edges) e (there e l))).within;
      apart = λ e f l m same. pivots_apart p.edges e f (there e l) (there f m) same;
      below = λ e l. s.below e (there e l);
      idle = λ v l n. kept p (all_idle p) (order_of p.edges) v (λ f m. n f (order_removed p.edges (length p.edges) f m).place) ∙ get_or-replicate p.vertices v p.idle 0 l;
      busy = λ le. busy_are p (order_of p.edges) (apart-order p.edges) (λ e m. h e (order_removed p.edges (length p.edges) e m)) le
          ∙ omega (arith, length-order p.edges (length p.edges), no_left);
    }) where
      no_left : length (left_after p.edges (length p.edges)) ≡ 0
      no_left = ap length none

      there : (e : ℕ) → e < length p.edges → has (order_of p.edges) e ≡ true
      there e l = all_removed p.edges (length p.edges) e l (ap (λ xs. has xs e) none)

pub fit_from : (k : ℕ) (r : Rule) (n : ℕ) (edges : List (List ℕ)) (tags : List ℕ) → IsRule k r → IsCount (length edges) → AreEdges k n edges → (e : ℕ) → IsRemoved edges e → IsFit (plan_of r n edges tags) e
fit_from k r n edges tags law many are e is =
    let edge = are e [] is.place in
    record {
      touching = is.touching;
      within = edge.1.0 (pivot_of edges e) 0 is.within;
      distinct = distinct-from (ends_at edges e) edge.1.1;
      target = law.target_below (length edges) e (pivot_of edges e) (get_or tags e 0) many is.place (omega (arith, is.within, edge.0));
    }

pub plan_solved : (k : ℕ) (r : Rule) (n : ℕ) (edges : List (List ℕ)) (tags : List ℕ) → IsRule k r → IsCount (length edges) → AreEdges k n edges → rest_of edges ≡ [] → AreSolved (plan_of r n edges tags) (cells_of (plan_of r n edges tags))
plan_solved k r n edges tags law many are none = cells_solved (plan_of r n edges tags) none (fit_from k r n edges tags law many are)

pub long_at : (p : Plan) (cells es : List ℕ) → cells ≡ one_by_one p (all_idle p) es → length cells ≡ p.vertices
long_at p cells es h = ap length h ∙ (length-one_by_one p (all_idle p) es ∙ length-replicate p.vertices p.idle)

-- an edge is removed if none is left
pub removed_at : (edges : List (List ℕ)) (e : ℕ) → rest_of edges ≡ [] → e < length edges → IsRemoved edges e
removed_at edges e none h = order_removed edges (length edges) e (all_removed edges (length edges) e h (ap (λ xs. has xs e) none))

-- functions that agree on a list
pub map_agree : {Y : Type 0} (f g : ℕ → Y) (xs : List ℕ) → All (λ x. f x ≡ g x) xs → map f xs ≡ map g xs
map_agree f g [] h = refl
map_agree f g (x ∷ xs) h =
    ap (λ y. y ∷ map f xs) (h 0 0 (omega arith)) ∙ ap (λ ys. g x ∷ ys) (map_agree f g xs (λ k d low. h (suc k) d (omega arith)))

-- an element of a list that is made of another
pub at_place : {Y : Type 0} (f : ℕ → Y) (xs : List ℕ) (ys : List Y) (i : ℕ) (d : Y) → ys ≡ map f xs → i < length ys → get_or ys i d ≡ f (get_or xs i 0)
at_place f xs ys i d is h =
    let long : length ys ≡ length xs = ap length is ∙ length-map xs f in
    ap (λ zs. get_or zs i d) is ∙ get_or-map f xs i 0 d (omega arith)

-- the loops
pub drop_one : (xs : List ℕ) (i : ℕ) → i < length xs → drop i xs ≡ get_or xs i 0 ∷ drop (suc i) xs
drop_one [] i h = absurd (omega arith)
drop_one (x ∷ xs) zero h = refl
drop_one (x ∷ xs) (suc i) h = drop_one xs i (omega arith)

-- the cell of an edge is set to its value in the cells that were read
set_is : (p : Plan) (read cells new : List ℕ) (e : ℕ) (ends : List ℕ) (position target modulus sum : ℕ) → new ≡ set cells (get_or ends position 0) (completing modulus target sum) → sum ≡ sum_but read (get_or ends position 0) ends
    → ends ≡ ends_at p.edges e → position ≡ pivot_of p.edges e → target ≡ p.target e → modulus ≡ p.modulus → new ≡ set cells (pivot_vertex p.edges e) (value_at p read e)
set_is p read cells new e ends position target modulus sum n is en po ta mo =
    let at : get_or ends position 0 ≡ pivot_vertex p.edges e = ap (λ xs. get_or xs position 0) en ∙ ap (λ k. get_or (ends_at p.edges e) k 0) po in
    n ∙ (ap (λ k. set cells k (completing modulus target sum)) at
    ∙ ap (λ x. set cells (pivot_vertex p.edges e) x) (ap (λ k. completing k target sum) mo ∙ (ap (λ k. completing p.modulus k sum) ta
    ∙ ap (completing p.modulus (p.target e)) (is ∙ (ap (λ k. sum_but read k ends) at ∙ ap (sum_but read (pivot_vertex p.edges e)) en)))))

pub settle_step : (p : Plan) (before cells new es ends : List ℕ) (i position target modulus sum : ℕ) → cells ≡ one_by_one p before (drop (suc i) es)
    → new ≡ set cells (get_or ends position 0) (completing modulus target sum) → sum ≡ sum_but cells (get_or ends position 0) ends
    → ends ≡ ends_at p.edges (get_or es i 0) → position ≡ pivot_of p.edges (get_or es i 0) → target ≡ p.target (get_or es i 0) → modulus ≡ p.modulus → i < length es
    → new ≡ one_by_one p before (drop i es)
settle_step p before cells new es ends i position target modulus sum h n is en po ta mo within =
    let e : ℕ = get_or es i 0 in
    set_is p cells cells new e ends position target modulus sum n is en po ta mo
    ∙ (ap (λ c. set c (pivot_vertex p.edges e) (value_at p c e)) h
    ∙ ap (one_by_one p before) (sym (drop_one es i within)))

pub set_step : (p : Plan) (before cells new es ends : List ℕ) (i position target modulus sum : ℕ) → cells ≡ at_once p before (drop (suc i) es)
    → new ≡ set cells (get_or ends position 0) (completing modulus target sum) → sum ≡ sum_but before (get_or ends position 0) ends
    → ends ≡ ends_at p.edges (get_or es i 0) → position ≡ pivot_of p.edges (get_or es i 0) → target ≡ p.target (get_or es i 0) → modulus ≡ p.modulus → i < length es
    → new ≡ at_once p before (drop i es)
set_step p before cells new es ends i position target modulus sum h n is en po ta mo within =
    let e : ℕ = get_or es i 0 in
    set_is p before cells new e ends position target modulus sum n is en po ta mo
    ∙ (ap (λ c. set c (pivot_vertex p.edges e) (value_at p before e)) h
    ∙ ap (at_once p before) (sym (drop_one es i within)))

-- one more chunk
pub chunk_step : (p : Plan) (before cells new order : List ℕ) (at n : ℕ) → cells ≡ one_by_one p before (drop (at + n) order) → new ≡ one_by_one p cells (take n (drop at order)) → new ≡ one_by_one p before (drop at order)
chunk_step p before cells new order at n h is =
    is ∙ (ap (λ c. one_by_one p c (take n (drop at order))) h ∙ (sym (one_by_one-append p before (take n (drop at order)) (drop (at + n) order)) ∙ ap (one_by_one p before) (ap (λ xs. take n (drop at order) ++ xs) (sym (drop-drop n at order)) ∙ take-append-drop n (drop at order))))

pub loop_end : (p : Plan) (cells order : List ℕ) (i : ℕ) → cells ≡ one_by_one p (all_idle p) (drop i order) → i ≡ 0 → order ≡ order_of p.edges → cells ≡ cells_of p
loop_end p cells order i h z o = h ∙ (ap (λ k. one_by_one p (all_idle p) (drop k order)) z ∙ (ap (one_by_one p (all_idle p)) o ∙ sym (cells_are p)))
