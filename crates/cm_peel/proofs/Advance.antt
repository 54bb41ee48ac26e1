-- From one round to the next.
use Rattle.std.proofs.Common.{◌≡◌, ◌⊎◌, ℕ, suc, ◌+◌, ◌-◌, ◌<◌, Bool, true, false, cond, not, eqb, ◌&&◌, List, [], ◌∷◌, length, sym, refl, ap, ◌∙◌, inl, inr}
use Rattle.std.specs.List.{position_or_len}
use Rattle.std.proofs.lemmas.Bool.{cases_Bool, and_from, and_left, and_right, cond-true, cond-false, eq-eqb, not_from_true, not_from_false, or_left, or_right}
use Rattle.cm_spec.specs.Lists.{has}
use Rattle.cm_spec.specs.Graph.{ends_at, degree_in}
use Rattle.cm_spec.specs.Rounds.{is_left, is_held, left_after, removed_after, level_of, pivot_of}
use Rattle.cm_graph_edges.specs.Graph.{Graph, Links, is_free}
use Rattle.cm_peel.specs.Incident.{AreLinked, is_half_left, free_position}
use Rattle.cm_peel.specs.AtRound.{tag_of, byte_of}
use Rattle.cm_peel.proofs.Falls.{falls_early, falls_level}
use Rattle.cm_peel.proofs.Incident.{live}
use Rattle.cm_peel.proofs.RoundFacts.{degree_left}
use Rattle.cm_peel.specs.RoundLaws.{has_left, has_place, has_left_from, has_removed, level_is}

-- the pivot of such an edge
pub place_agree : (p q : ℕ → Bool) (xs : List ℕ) → ((v : ℕ) → has xs v ≡ true → p v ≡ q v) → position_or_len p xs ≡ position_or_len q xs
place_agree p q [] h = refl
place_agree p q (x ∷ xs) h =
    ap (λ b. cond (not b) (1 + position_or_len p xs) 0) (h x (or_left _ _ (eq-eqb x x refl))) ∙ ap (λ n. cond (not (q x)) (1 + n) 0) (place_agree p q xs (λ v m. h v (or_right (eqb x v) _ m)))

pub pivot_is : (graph : Graph) (t : ℕ) (l : Links) (e : ℕ) → AreLinked graph (is_half_left graph.edges t) l → e < length graph.edges → is_left graph.edges t e ≡ true → is_left graph.edges (suc t) e ≡ false → free_position l graph.edges e ≡ pivot_of graph.edges e
pivot_is graph t l e a h here gone =
    place_agree (is_free l) (λ v. eqb (degree_in graph.edges (left_after graph.edges (level_of graph.edges e - 1)) v) 1) (ends_at graph.edges e)
    (λ v m. ap (λ d. eqb d 1) (degree_left graph t l v a (live graph.edges t e v h here m) ∙ ap (λ k. degree_in graph.edges (left_after graph.edges k) v) (sym (falls_level graph.edges t e h here gone))))

-- the byte of such an edge
pub byte_is : (graph : Graph) (t : ℕ) (l : Links) (e : ℕ) → AreLinked graph (is_half_left graph.edges t) l → e < length graph.edges → is_left graph.edges t e ≡ true → is_left graph.edges (suc t) e ≡ false → tag_of t + free_position l graph.edges e ≡ byte_of graph.edges e
byte_is graph t l e a h here gone = ap (λ n. tag_of t + n) (pivot_is graph t l e a h here gone) ∙ ap (λ s. tag_of s + pivot_of graph.edges e) (sym (falls_level graph.edges t e h here gone))

-- levels after a round
pub levels_next : (edges : List (List ℕ)) (t e : ℕ) → e < length edges → cond (has (removed_after edges t) e) (suc t) (cond (is_left edges t e) 0 (level_of edges e)) ≡ cond (is_left edges (suc t) e) 0 (level_of edges e)
levels_next edges t e h = go (cases_Bool (is_left edges t e)) (cases_Bool (is_held edges (left_after edges t) e)) where
  left : has (left_after edges t) e ≡ is_left edges t e
  left = has_left edges t e ∙ ap (λ b. b && is_left edges t e) (has_place edges e h)

  gone : has (removed_after edges t) e ≡ (is_left edges t e && not (is_held edges (left_after edges t) e))
  gone = has_removed edges t e ∙ ap (λ b. b && not (is_held edges (left_after edges t) e)) left

  go : (is_left edges t e ≡ true) ⊎ (is_left edges t e ≡ false) → (is_held edges (left_after edges t) e ≡ true) ⊎ (is_held edges (left_after edges t) e ≡ false) → cond (has (removed_after edges t) e) (suc t) (cond (is_left edges t e) 0 (level_of edges e)) ≡ cond (is_left edges (suc t) e) 0 (level_of edges e)
  go (inl here) (inl held) =
      let no₁ : has (removed_after edges t) e ≡ false = gone ∙ and_right (is_left edges t e) _ (not_from_true _ held) in
      cond-false _ (suc t) (cond (is_left edges t e) 0 (level_of edges e)) no₁ ∙ (cond-true _ 0 (level_of edges e) here ∙ sym (cond-true _ 0 (level_of edges e) (and_from _ _ here held)))
  go (inl here) (inr falls) =
      let yes₁ : has (removed_after edges t) e ≡ true = gone ∙ and_from _ _ here (not_from_false _ falls) in
      let after : is_left edges (suc t) e ≡ false = and_right (is_left edges t e) _ falls in
      cond-true _ (suc t) (cond (is_left edges t e) 0 (level_of edges e)) yes₁ ∙ (sym (level_is edges t e h (falls_early edges t e h here after) here after) ∙ sym (cond-false _ 0 (level_of edges e) after))
  go (inr before) held =
      let no₁ : has (removed_after edges t) e ≡ false = gone ∙ and_left (is_left edges t e) _ before in
      let after : is_left edges (suc t) e ≡ false = and_left (is_left edges t e) _ before in
      cond-false _ (suc t) (cond (is_left edges t e) 0 (level_of edges e)) no₁ ∙ (cond-false _ 0 (level_of edges e) before ∙ sym (cond-false _ 0 (level_of edges e) after))

pub falls_removed : (edges : List (List ℕ)) (t e : ℕ) → e < length edges → is_left edges t e ≡ true → is_left edges (suc t) e ≡ false → has (removed_after edges t) e ≡ true
falls_removed edges t e h here gone =
    let falls : is_held edges (left_after edges t) e ≡ false = sym (ap (λ b. b && is_held edges (left_after edges t) e) here) ∙ gone in
    has_removed edges t e ∙ and_from _ _ (has_left_from edges t e h here) (not_from_false _ falls)
