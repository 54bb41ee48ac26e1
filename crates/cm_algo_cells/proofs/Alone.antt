-- A pivot's vertex is an end of no other edge of its round or of a later one.
use Rattle.std.proofs.Common.{◌≡◌, ◌≢◌, ◌⊎◌, ℕ, zero, suc, ◌+◌, ◌-◌, ◌<◌, ◌≤◌, Bool, true, false, not, eqb, ◌&&◌, List, [], ◌∷◌, length, get_or, sym, refl, ap, ◌∙◌, subst, inl, inr, arith}
use Rattle.std.specs.List.{list_all, position_or_len}
use Rattle.std.proofs.lemmas.Bool.{both_ways, cases_Bool, eqb-true, eq-eqb, and_parts, or_cases, or_left, or_right, false≢true}
use Rattle.std.proofs.lemmas.List.Sums.{passes_at_first}
use Rattle.cm_spec.specs.Graph.{touches, ends_at, degree_in}
use Rattle.cm_spec.specs.Lists.{has}
use Rattle.cm_spec.specs.Rounds.{is_left, is_held, left_after, removed_after, level_of, pivot_of}
use Rattle.cm_peel.specs.SetLaws.{has-filter, count_by_some, count_by_two, place_within}
use Rattle.cm_peel.specs.CoreLaws.{left_after-suc, progress, IsStable}
use Rattle.cm_peel.specs.RoundLaws.{has_removed, removed_is_left, is_left_from, has_left_from, not_held_end, degree_some, level_is}
use Rattle.cm_spec.specs.Cells.{pivot_vertex}

any_place : (p : ℕ → Bool) (xs : List ℕ) (v : ℕ) → has xs v ≡ true → p v ≡ true → position_or_len p xs < length xs
any_place p xs v h pass = place_within p xs (count_by_some p xs v h pass)

all_at : (p : ℕ → Bool) (xs : List ℕ) (e : ℕ) → list_all p xs ≡ true → has xs e ≡ true → p e ≡ true
all_at p [] e h m = absurd (false≢true m)
all_at p (x ∷ xs) e h m =
    let both = and_parts (p x) (list_all p xs) h in
    go both.0 (all_at p xs e both.1) (or_cases (eqb x e) (has xs e) m) where
      go : p x ≡ true → (has xs e ≡ true → p e ≡ true) → (eqb x e ≡ true) ⊎ (has xs e ≡ true) → p e ≡ true
      go pass ih (inl same) = subst (λ z. p z ≡ true) (eqb-true x e same) pass
      go pass ih (inr more) = ih more

has_some : (xs : List ℕ) (e : ℕ) → has xs e ≡ true → 0 < length xs
has_some [] e m = absurd (false≢true m)
has_some (x ∷ xs) e m = omega arith

-- what a filter keeps is still there
pub left_before : (edges : List (List ℕ)) (t f : ℕ) → has (left_after edges (suc t)) f ≡ true → has (left_after edges t) f ≡ true
left_before edges t f h = (and_parts (has (left_after edges t) f) (is_held edges (left_after edges t) f) (sym (has-filter (is_held edges (left_after edges t)) (left_after edges t) f) ∙ (ap (λ s. has s f) (sym (left_after-suc edges t)) ∙ h))).0

pub removed_not_left : (edges : List (List ℕ)) (t e : ℕ) → has (removed_after edges t) e ≡ true → has (left_after edges (suc t)) e ≡ false
removed_not_left edges t e h =
    let both = and_parts (has (left_after edges t) e) (not (is_held edges (left_after edges t) e)) (sym (has_removed edges t e) ∙ h) in
    ap (λ s. has s e) (left_after-suc edges t) ∙ (has-filter (is_held edges (left_after edges t)) (left_after edges t) e ∙ go (has (left_after edges t) e) (is_held edges (left_after edges t) e) both.1) where
      go : (a b : Bool) → not b ≡ true → (a && b) ≡ false
      go true true h = absurd (false≢true h)
      go true false h = refl
      go false b h = refl

-- the number of edges that are left falls, so a round that removes an edge is an early one
early : (edges : List (List ℕ)) (t e : ℕ) → has (removed_after edges t) e ≡ true → t < length edges
early edges t e h = go (progress edges t) where
  go : IsStable edges t ⊎ (length (left_after edges t) + t ≤ length edges) → t < length edges
  go (inl stable) =
      let both = and_parts (has (left_after edges t) e) (not (is_held edges (left_after edges t) e)) (sym (has_removed edges t e) ∙ h) in
      let held : is_held edges (left_after edges t) e ≡ true = all_at (is_held edges (left_after edges t)) (left_after edges t) e stable both.0 in
      absurd (false≢true (sym (ap not held) ∙ both.1))
  go (inr few) = omega (arith, has_some (left_after edges t) e (removed_is_left edges t e h))

pub removed_place : (edges : List (List ℕ)) (t e : ℕ) → has (removed_after edges t) e ≡ true → e < length edges
removed_place edges t e h = (is_left_from edges t e (removed_is_left edges t e h)).0

pub removed_level : (edges : List (List ℕ)) (t e : ℕ) → has (removed_after edges t) e ≡ true → level_of edges e ≡ suc t
removed_level edges t e h =
    let now = is_left_from edges t e (removed_is_left edges t e h) in
    level_is edges t e now.0 (early edges t e h) now.1 (go (cases_Bool (is_left edges (suc t) e))) where
      go : (is_left edges (suc t) e ≡ true) ⊎ (is_left edges (suc t) e ≡ false) → is_left edges (suc t) e ≡ false
      go (inl still) = absurd (both_ways _ (removed_not_left edges t e h) (has_left_from edges (suc t) e (removed_place edges t e h) still))
      go (inr gone) = gone

-- the pivot is a position, and its vertex has degree one when the round begins
pub record IsPivot (edges : List (List ℕ)) (t e : ℕ) : Type 0 where
  pub within : pivot_of edges e < length (ends_at edges e)
  pub one : degree_in edges (left_after edges t) (pivot_vertex edges e) ≡ 1
  pub touching : touches (pivot_vertex edges e) (ends_at edges e) ≡ true

has_at : (xs : List ℕ) (i : ℕ) → i < length xs → has xs (get_or xs i 0) ≡ true
has_at [] i h = absurd (omega arith)
has_at (x ∷ xs) zero h = or_left _ _ (eq-eqb x x refl)
has_at (x ∷ xs) (suc i) h = or_right (eqb x (get_or xs i 0)) _ (has_at xs i (omega arith))

pub pivot_at : (edges : List (List ℕ)) (t e : ℕ) → has (removed_after edges t) e ≡ true → IsPivot edges t e
pivot_at edges t e h =
    let ends : List ℕ = ends_at edges e in
    let level : level_of edges e ≡ suc t = removed_level edges t e h in
    let before : level_of edges e - 1 ≡ t = omega (arith, level) in
    let test : ℕ → Bool = λ v. eqb (degree_in edges (left_after edges t) v) 1 in
    let is : pivot_of edges e ≡ position_or_len test ends = ap (λ k. position_or_len (λ v. eqb (degree_in edges (left_after edges k) v) 1) (ends_at edges e)) before in
    let both = and_parts (has (left_after edges t) e) (not (is_held edges (left_after edges t) e)) (sym (has_removed edges t e) ∙ h) in
    let low = not_held_end (degree_in edges (left_after edges t)) ends both.1 in
    let some : 1 ≤ degree_in edges (left_after edges t) low.0 = degree_some edges t e low.0 both.0 low.1 in
    let few : degree_in edges (left_after edges t) low.0 < 2 = low.2 in
    let one : degree_in edges (left_after edges t) low.0 ≡ 1 = omega arith in
    let within : position_or_len test ends < length ends = any_place test ends low.0 low.1 (eq-eqb _ 1 one) in
    let passes : test (get_or ends (position_or_len test ends) 0) ≡ true = passes_at_first test ends 0 within in
    let same : pivot_vertex edges e ≡ get_or ends (position_or_len test ends) 0 = ap (λ i. get_or ends i 0) is in
    record {
      within = subst (λ i. i < length ends) (sym is) within;
      one = subst (λ v. degree_in edges (left_after edges t) v ≡ 1) (sym same) (eqb-true _ 1 passes);
      touching = subst (λ v. touches v ends ≡ true) (sym same) (has_at ends (position_or_len test ends) within);
    }

-- the main fact
pub alone : (edges : List (List ℕ)) (t e f : ℕ) → has (removed_after edges t) e ≡ true → has (left_after edges t) f ≡ true → f ≢ e → touches (pivot_vertex edges e) (ends_at edges f) ≡ false
alone edges t e f h m ne = go (cases_Bool (touches (pivot_vertex edges e) (ends_at edges f))) (pivot_at edges t e h) where
  go : (touches (pivot_vertex edges e) (ends_at edges f) ≡ true) ⊎ (touches (pivot_vertex edges e) (ends_at edges f) ≡ false) → IsPivot edges t e → touches (pivot_vertex edges e) (ends_at edges f) ≡ false
  go (inr no') p = no'
  go (inl both') p =
      let two : 2 ≤ degree_in edges (left_after edges t) (pivot_vertex edges e) = count_by_two (λ x. touches (pivot_vertex edges e) (ends_at edges x)) (left_after edges t) f e ne m (removed_is_left edges t e h) both' p.touching in
      absurd (omega (arith, p.one))
