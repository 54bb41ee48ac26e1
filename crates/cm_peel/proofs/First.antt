-- Taking the edges of the first round.
use Rattle.std.proofs.Common.{◌≡◌, ◌⊎◌, ℕ, ◌+◌, ◌<◌, ◌≤◌, Bool, true, false, cond, not, eqb, ltb, ◌&&◌, List, [], ◌∷◌, ◌++◌, length, get_or, map, filter, sym, refl, ap, ◌∙◌, inl, inr, arith, length-append}
use mir.Val.{bool_byte}
use Rattle.std.specs.List.{list_any, position_or_len}
use Rattle.std.proofs.lemmas.Bool.{cases_Bool, cond-true, cond-false, cases_lt, lt-ltb, le-ltb, or_parts, not_from_false}
use Rattle.std.proofs.lemmas.List.Elements.{filter-append}
use Rattle.cm_spec.specs.Lists.{numbers_from, has}
use Rattle.cm_spec.specs.Graph.{AreEdges, places, ends_at}
use Rattle.cm_spec.specs.Rounds.{left_after, removed_after, is_left, is_held, level_of}
use Rattle.cm_graph_edges.specs.Graph.{Graph, Links, is_free, degree_of}
use Rattle.cm_peel.specs.AtRound.{AtRound, byte_of, tag_of}
use Rattle.cm_peel.specs.Incident.{AreLinked, is_picked, free_position, first_byte}
use Rattle.cm_peel.specs.Peeling.{taken_of}
use Rattle.cm_peel.specs.SetLaws.{filter_agree_on}
use Rattle.cm_peel.specs.RoundLaws.{has_left_from, has_removed, place_below}
use Rattle.cm_peel.proofs.Incident.{any_before}
use Rattle.cm_peel.proofs.Pieces.{numbers-append}
use Rattle.cm_peel.proofs.RoundFacts.{picked_is, picked_first}
use Rattle.cm_peel.proofs.Advance.{byte_is, levels_next}
use Rattle.cm_peel.proofs.Begun.{round_begun}
use Rattle.cm_peel.proofs.NextRound.{gone_next}
use Rattle.cm_peel.proofs.Taking.{or_none}

-- one more number of which some are kept
pub kept_next : (p : ℕ → Bool) (e : ℕ) → filter p (numbers_from 0 (e + 1)) ≡ filter p (numbers_from 0 e) ++ cond (p e) (e ∷ []) []
kept_next p e =
    let z : 0 + e ≡ e = omega arith in
    let more : numbers_from 0 (e + 1) ≡ numbers_from 0 e ++ e ∷ [] = sym (numbers-append 0 e 1) ∙ ap (λ x. numbers_from 0 e ++ x ∷ []) z in
    ap (filter p) more ∙ filter-append p (numbers_from 0 e) (e ∷ [])

pub kept_count : (p : ℕ → Bool) (e : ℕ) → length (filter p (numbers_from 0 (e + 1))) ≡ length (filter p (numbers_from 0 e)) + bool_byte (p e)
kept_count p e = ap length (kept_next p e) ∙ (length-append (filter p (numbers_from 0 e)) (cond (p e) (e ∷ []) []) ∙ ap (λ n. length (filter p (numbers_from 0 e)) + n) (go (p e))) where
  go : (b : Bool) → length (cond b (e ∷ []) []) ≡ bool_byte b
  go true = refl
  go false = refl

-- the first position that passes lies within exactly if one passes
none_before : (p : ℕ → Bool) (xs : List ℕ) → list_any p xs ≡ false → position_or_len p xs ≡ length xs
none_before p [] h = refl
none_before p (x ∷ xs) h =
    let parts = or_parts (p x) (list_any p xs) h in
    ap (λ b. cond (not b) (1 + position_or_len p xs) 0) parts.0 ∙ (ap (λ n. 1 + n) (none_before p xs parts.1) ∙ omega arith)

pub found_within : (p : ℕ → Bool) (xs : List ℕ) (n : ℕ) → length xs ≡ n → ltb (position_or_len p xs) n ≡ list_any p xs
found_within p xs n long = go (cases_Bool (list_any p xs)) where
  go : (list_any p xs ≡ true) ⊎ (list_any p xs ≡ false) → ltb (position_or_len p xs) n ≡ list_any p xs
  go (inl some) = lt-ltb _ n (omega (arith, any_before p xs some)) ∙ sym some
  go (inr none) = le-ltb _ n (omega (arith, none_before p xs none)) ∙ sym none

position-map : (p : ℕ → Bool) (f : ℕ → ℕ) (xs : List ℕ) → position_or_len p (map f xs) ≡ position_or_len (λ x. p (f x)) xs
position-map p f [] = refl
position-map p f (x ∷ xs) = ap (λ n. cond (not (p (f x))) (1 + n) 0) (position-map p f xs)

-- the byte of an edge, from the degrees of its ends
pub first_is : (k : ℕ) (l : Links) (edges : List (List ℕ)) (e b : ℕ) (ends : List ℕ) → ends ≡ ends_at edges e
    → b ≡ cond (ltb (position_or_len (λ d. eqb d 1) (map (degree_of l) ends)) k) (position_or_len (λ d. eqb d 1) (map (degree_of l) ends)) 8 → b ≡ first_byte k l edges e
first_is k l edges e b ends are is =
    let free : position_or_len (λ d. eqb d 1) (map (degree_of l) ends) ≡ free_position l edges e = position-map (λ d. eqb d 1) (degree_of l) ends ∙ ap (position_or_len (λ v. eqb (degree_of l v) 1)) are in
    is ∙ ap (λ n. cond (ltb n k) n 8) free

-- which edges the first round removes
pub picked_byte : (k : ℕ) (graph : Graph) (l : Links) (bytes : List ℕ) → k ≤ 3 → AreEdges k graph.vertices graph.edges → ((e : ℕ) → e < length graph.edges → get_or bytes e 0 ≡ first_byte k l graph.edges e) → (e : ℕ) → e < length graph.edges → ltb (get_or bytes e 0) 8 ≡ is_picked l graph.edges e
picked_byte k graph l bytes small are set e h = ap (λ x. ltb x 8) (set e h) ∙ go (cases_lt (free_position l graph.edges e) k) where
  found : ltb (free_position l graph.edges e) k ≡ is_picked l graph.edges e
  found = found_within (is_free l) (ends_at graph.edges e) k (are e [] h).0

  go : (free_position l graph.edges e < k) ⊎ (k ≤ free_position l graph.edges e) → ltb (first_byte k l graph.edges e) 8 ≡ is_picked l graph.edges e
  go (inl low) = ap (λ x. ltb x 8) (cond-true _ (free_position l graph.edges e) 8 (lt-ltb _ k low)) ∙ (lt-ltb _ 8 (omega arith) ∙ (sym (lt-ltb _ k low) ∙ found))
  go (inr high) = ap (λ x. ltb x 8) (cond-false _ (free_position l graph.edges e) 8 (le-ltb _ k high)) ∙ (sym (le-ltb _ k high) ∙ found)

pub first_taken : (k : ℕ) (graph : Graph) (l : Links) (bytes : List ℕ) → k ≤ 3 → AreEdges k graph.vertices graph.edges → AreLinked graph (λ _ _. true) l → length bytes ≡ length graph.edges → ((e : ℕ) → e < length graph.edges → get_or bytes e 0 ≡ first_byte k l graph.edges e) → taken_of bytes ≡ removed_after graph.edges 0
first_taken k graph l bytes small are a blong set =
    ap (λ n. filter (λ e. ltb (get_or bytes e 0) 8) (numbers_from 0 n)) blong
    ∙ (filter_agree_on (λ e. ltb (get_or bytes e 0) 8) (is_picked l graph.edges) (places graph.edges) (λ e m. picked_byte k graph l bytes small are set e (place_below graph.edges e m)) ∙ picked_first graph l a)

-- the state before the first round
pub first_round : (k : ℕ) (graph : Graph) (l : Links) (round levels levels' bytes : List ℕ) → k ≤ 3 → AreEdges k graph.vertices graph.edges → AreLinked graph (λ _ _. true) l → (0 < length levels → length levels ≡ length graph.edges) → ((e : ℕ) → e < length levels → get_or levels e 0 ≡ 0) → length bytes ≡ length graph.edges
    → ((e : ℕ) → e < length graph.edges → get_or bytes e 0 ≡ first_byte k l graph.edges e) → round ≡ removed_after graph.edges 0 → length levels' ≡ length levels → ((e : ℕ) → e < length levels → get_or levels' e 0 ≡ cond (has round e) 1 (get_or levels e 0)) → AtRound graph 0 l levels' bytes
first_round k graph l round levels levels' bytes small are a kept zero blong set is llong lset = record {
  round = round_begun graph 0 l bytes a blong byte (λ e h. picked_byte k graph l bytes small are set e h ∙ (removed e h ∙ (sym (or_none (has (removed_after edges 0) e)) ∙ gone_next edges 0 e h)));
  levels_kept = λ n. llong ∙ kept (omega arith);
  level = λ e h. level e (omega arith);
} where
  edges : List (List ℕ)
  edges = graph.edges

  found : (e : ℕ) → e < length graph.edges → ltb (free_position l graph.edges e) k ≡ is_picked l graph.edges e
  found e h = found_within (is_free l) (ends_at edges e) k (are e [] h).0

  removed : (e : ℕ) → e < length graph.edges → is_picked l graph.edges e ≡ has (removed_after graph.edges 0) e
  removed e h =
      let here : has (left_after edges 0) e ≡ true = has_left_from edges 0 e h refl in
      picked_is graph 0 l e a here ∙ sym (has_removed edges 0 e ∙ ap (λ b. b && not (is_held edges (left_after edges 0) e)) here)

  level : (e : ℕ) → e < length levels → get_or levels' e 0 ≡ cond (is_left graph.edges 1 e) 0 (level_of graph.edges e)
  level e h =
      let place : e < length edges = omega (arith, kept (omega arith)) in
      lset e h ∙ (ap (λ x. cond (has round e) 1 x) (zero e h) ∙ (ap (λ (xs : List ℕ). cond (has xs e) 1 0) is ∙ levels_next edges 0 e place))

  byte : (e : ℕ) → e < length graph.edges → is_left graph.edges 1 e ≡ false → get_or bytes e 0 ≡ byte_of graph.edges e
  byte e h gone =
      let falls : is_picked l graph.edges e ≡ true = picked_is graph 0 l e a (has_left_from edges 0 e h refl) ∙ not_from_false _ gone in
      let low : ltb (free_position l graph.edges e) k ≡ true = found e h ∙ falls in
      let tag : tag_of 0 + free_position l graph.edges e ≡ free_position l graph.edges e = omega arith in
      set e h ∙ (cond-true _ _ _ low ∙ (sym tag ∙ byte_is graph 0 l e a h refl gone))
