-- One by one and at once give the same cells.
use Rattle.std.proofs.Common.{◌≡◌, ◌≢◌, ◌⊎◌, ℕ, zero, suc, ◌+◌, true, false, eqb, List, [], ◌∷◌, ◌++◌, length, get_or, set, sym, refl, ap, ◌∙◌, subst, inl, inr, arith, append_assoc, append-nil}
use Rattle.std.specs.List.{sum_by}
use Rattle.std.proofs.Math.ListN.{length-set}
use Rattle.std.proofs.lemmas.Bool.{both_ways, cases_eq, eq-eqb, ne_eqb, or_left, or_right}
use Rattle.std.proofs.lemmas.List.Sums.{sum_by-cons}
use Rattle.std.proofs.lemmas.List.{get_or-set_other}
use Rattle.cm_spec.specs.Graph.{ends_at}
use Rattle.cm_spec.specs.Lists.{has}
use Rattle.cm_spec.specs.Rounds.{removed_after, order_upto, order_of}
use Rattle.cm_peel.specs.SetLaws.{AreApart, Rises-apart}
use Rattle.cm_peel.specs.RoundLaws.{removed_rises, removed_is_left}
use Rattle.cm_algo_cells.specs.OneByOne.{one_by_one}
use Rattle.cm_spec.specs.Cells.{Plan, pivot_vertex, cell_but, completing, value_at, at_once, cells_from, cells_of, all_idle}
use Rattle.cm_algo_cells.proofs.Alone.{alone}

pub sum_by-agree : (f g : ℕ → ℕ) (xs : List ℕ) → ((u : ℕ) → has xs u ≡ true → f u ≡ g u) → sum_by f xs ≡ sum_by g xs
sum_by-agree f g [] h = refl
sum_by-agree f g (x ∷ xs) h =
    let here : f x ≡ g x = h x (or_left _ _ (eq-eqb x x refl)) in
    let rest : sum_by f xs ≡ sum_by g xs = sum_by-agree f g xs (λ u m. h u (or_right (eqb x u) (has xs u) m)) in
    sum_by-cons f x xs ∙ (ap (λ n. n + sum_by f xs) here ∙ (ap (λ n. g x + n) rest ∙ sym (sum_by-cons g x xs)))

-- only the cells of the other ends count
pub value_same : (p : Plan) (cells cells' : List ℕ) (e : ℕ) → ((u : ℕ) → has (ends_at p.edges e) u ≡ true → u ≢ pivot_vertex p.edges e → get_or cells u 0 ≡ get_or cells' u 0) → value_at p cells e ≡ value_at p cells' e
value_same p cells cells' e h =
    let v : ℕ = pivot_vertex p.edges e in
    ap (λ s. completing p.modulus (p.target e) s) (sum_by-agree (cell_but cells v) (cell_but cells' v) (ends_at p.edges e) (λ u m. go u m (cases_eq u v))) where
      go : (u : ℕ) → has (ends_at p.edges e) u ≡ true → (u ≡ pivot_vertex p.edges e) ⊎ (u ≡ pivot_vertex p.edges e → ⊥) → cell_but cells (pivot_vertex p.edges e) u ≡ cell_but cells' (pivot_vertex p.edges e) u
      go u m (inl same) = let t : eqb u (pivot_vertex p.edges e) ≡ true = eq-eqb _ _ same in rw (t) refl
      go u m (inr other) = let f : eqb u (pivot_vertex p.edges e) ≡ false = ne_eqb _ _ other in rw (f) (h u m other)

-- a vertex that is the pivot of none of the edges keeps its cell
pub kept : (p : Plan) (before es : List ℕ) (v : ℕ) → ((f : ℕ) → has es f ≡ true → pivot_vertex p.edges f ≢ v) → get_or (one_by_one p before es) v 0 ≡ get_or before v 0
kept p before [] v h = refl
kept p before (e ∷ es) v h =
    let ne : v ≢ pivot_vertex p.edges e = λ s. h e (or_left _ _ (eq-eqb e e refl)) (sym s) in
    get_or-set_other (one_by_one p before es) (pivot_vertex p.edges e) v _ 0 ne ∙ kept p before es v (λ f m. h f (or_right (eqb e f) (has es f) m))

pub length-one_by_one : (p : Plan) (before es : List ℕ) → length (one_by_one p before es) ≡ length before
length-one_by_one p before [] = refl
length-one_by_one p before (e ∷ es) = length-set _ _ _ ∙ length-one_by_one p before es

-- no edge has the vertex at the pivot of a later one as an end
abbrev pub AreFree : List (List ℕ) → List ℕ → Type 0
AreFree edges [] = Unit {0}
AreFree edges (e ∷ es) = ((f : ℕ) → has es f ≡ true → has (ends_at edges e) (pivot_vertex edges f) ≡ false) × AreFree edges es

-- then each value may be taken from the cells before all of them
pub at_once_is : (p : Plan) (before es : List ℕ) → AreFree p.edges es → one_by_one p before es ≡ at_once p before es
at_once_is p before [] free = refl
at_once_is p before (e ∷ es) free =
    let same : value_at p (one_by_one p before es) e ≡ value_at p before e = value_same p (one_by_one p before es) before e (λ u m ne. kept p before es u (λ f n s.
    both_ways _ (free.0 f n) (subst (λ w. has (ends_at p.edges e) w ≡ true) (sym s) m))) in
    ap (λ c. set c (pivot_vertex p.edges e) (value_at p (one_by_one p before es) e)) (at_once_is p before es free.1) ∙ ap (λ x. set (at_once p before es) (pivot_vertex p.edges e) x) same

-- so it is with edges of one round
pub free_round : (edges : List (List ℕ)) (t : ℕ) (es : List ℕ) → ((e : ℕ) → has es e ≡ true → has (removed_after edges t) e ≡ true) → AreApart es → AreFree edges es
free_round edges t [] within distinct = tt
free_round edges t (e ∷ es) within distinct = (
  λ f m. alone edges t f e (within f (or_right (eqb e f) (has es f) m)) (removed_is_left edges t e (within e (or_left _ _ (eq-eqb e e refl)))) (λ s. both_ways _ distinct.0 (subst (λ x. has es x ≡ true) (sym s) m)),
  free_round edges t es (λ f m. within f (or_right (eqb e f) (has es f) m)) distinct.1,
)

pub round_is : (p : Plan) (before : List ℕ) (t : ℕ) → one_by_one p before (removed_after p.edges t) ≡ at_once p before (removed_after p.edges t)
round_is p before t = at_once_is p before (removed_after p.edges t) (free_round p.edges t (removed_after p.edges t) (λ e m. m) (Rises-apart 0 (removed_after p.edges t) (removed_rises p.edges t)))

-- the edges of d rounds from the one after t rounds on
abbrev pub rounds : List (List ℕ) → ℕ → ℕ → List ℕ
rounds edges zero t = []
rounds edges (suc d) t = removed_after edges t ++ rounds edges d (suc t)

pub one_by_one-append : (p : Plan) (before xs ys : List ℕ) → one_by_one p before (xs ++ ys) ≡ one_by_one p (one_by_one p before ys) xs
one_by_one-append p before [] ys = refl
one_by_one-append p before (x ∷ xs) ys = ap (λ c. set c (pivot_vertex p.edges x) (value_at p c x)) (one_by_one-append p before xs ys)

pub from_is : (p : Plan) (d t : ℕ) → cells_from p d t ≡ one_by_one p (all_idle p) (rounds p.edges d t)
unfolding cells_from
from_is p zero t = refl
from_is p (suc d) t =
    sym (one_by_one-append p (all_idle p) (removed_after p.edges t) (rounds p.edges d (suc t))
    ∙ (round_is p (one_by_one p (all_idle p) (rounds p.edges d (suc t))) t
    ∙ ap (λ c. at_once p c (removed_after p.edges t)) (sym (from_is p d (suc t)))))

pub rounds_are : (edges : List (List ℕ)) (d t : ℕ) → order_upto edges t ++ rounds edges d t ≡ order_upto edges (d + t)
rounds_are edges zero t = append-nil (order_upto edges t) ∙ (let s : t ≡ 0 + t = omega arith in ap (order_upto edges) s)
rounds_are edges (suc d) t =
    sym (append_assoc (order_upto edges t) (removed_after edges t) (rounds edges d (suc t)))
    ∙ (rounds_are edges d (suc t) ∙ (let s : d + suc t ≡ suc d + t = omega arith in ap (order_upto edges) s))

-- the definition by rounds is the order's, one by one
pub cells_are : (p : Plan) → cells_of p ≡ one_by_one p (all_idle p) (order_of p.edges)
cells_are p =
    from_is p (length p.edges) 0 ∙ ap (one_by_one p (all_idle p)) (rounds_are p.edges (length p.edges) 0 ∙ (let s : length p.edges + 0 ≡ length p.edges = omega arith in ap (order_upto p.edges) s))
