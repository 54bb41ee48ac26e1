-- Lemmas about equal keys: they have equal edges, which lie in the 2-core under every seed.
use Rattle.std.proofs.Common.{◌≡◌, ◌≢◌, ◌∙◌, ℕ, suc, ◌<◌, ◌≤◌, true, false, List, [], ◌∷◌, ◌++◌, length, get_or, sym, refl, ap, subst, arith, Option, None, Some, append_assoc, bytes_eq, ⊎_elim, eqb, length-append}
use Rattle.std.specs.List.{All, Contains}
use Rattle.std.proofs.lemmas.Bool.{cases_Bool, cases_lt, cond-false, eq-eqb, or_left, or_right}
use Rattle.std.proofs.Math.Seq.{get_or-append_seam}
use Rattle.std.proofs.lemmas.List.{get_or-map, get_or_append_left, length-map}
use Rattle.std.proofs.lemmas.List.Elements.{All-from_recursion, All-get_or}
use Rattle.std.proofs.lemmas.List.Folds.{list_any_at}
use Rattle.std.proofs.lemmas.List.Kept.{AllPairs-from_increasing}
use Rattle.std.proofs.lemmas.Option.{none-some}
use Rattle.std.proofs.lemmas.Slice.Eq.{bytes_eq-Decides}
use Rattle.cm_peel.specs.CoreLaws.{rest_are_places, rest_is_core}
use Rattle.cm_peel.specs.SetLaws.{count_by_two, increasing_from_Rises}
use Rattle.cm_spec.specs.Built.{edge_of, graph_of, key_at}
use Rattle.cm_spec.specs.Core.{IsClosed}
use Rattle.cm_spec.specs.Graph.{ArePlaces, degree_in, ends_at, touches}
use Rattle.cm_spec.specs.Lookup2.{words}
use Rattle.cm_spec.specs.Rounds.{rest_of}
use Rattle.cm_spec.specs.Rule.{Rule}
use Rattle.cm_witness_gather.specs.Cores.{EqualKeysMeet, keys_at}
use Rattle.cm_witness_gather.specs.Pairs.{first_line, pairs, pairs_after, with_pair}

-- the ends of a key by its bytes
ends_of_key : (r : Rule) (keys : List (ℕ × List ℕ)) (c seed i : ℕ) → i < length keys → ends_at (graph_of r keys c seed) i ≡ r.edge (words (key_at keys i) seed) (r.size (length keys) c)
ends_of_key r keys c seed i inside = get_or-map (edge_of r (r.size (length keys) c) seed) keys i (0, []) [] inside

-- equal keys have edges with the same ends
pub equal_keys_meet : (r : Rule) (keys : List (ℕ × List ℕ)) (c seed : ℕ) → EqualKeysMeet keys (graph_of r keys c seed)
equal_keys_meet r keys c seed i j in_i in_j same =
    ends_of_key r keys c seed i in_i
    ∙ ap (λ (key : List ℕ). r.edge (words key seed) (r.size (length keys) c)) same
    ∙ sym (ends_of_key r keys c seed j in_j)

-- each end of the first of two edges with the same ends is touched by both
both_touch : (edges : List (List ℕ)) (i j : ℕ) → i ≢ j → ends_at edges i ≡ ends_at edges j → All (λ v. 2 ≤ degree_in edges (i ∷ j ∷ []) v) (ends_at edges i)
both_touch edges i j apart meet k d inside =
    let v : ℕ = get_or (ends_at edges i) k d in
    let first : touches v (ends_at edges i) ≡ true = list_any_at (λ u. eqb u v) (ends_at edges i) k d inside (eq-eqb v v refl) in
    let second : touches v (ends_at edges j) ≡ true = subst (λ (ends : List ℕ). touches v ends ≡ true) meet first in
    count_by_two (λ e. touches v (ends_at edges e)) (i ∷ j ∷ []) i j apart (or_left _ _ (eq-eqb i i refl)) (or_right (eqb i j) _ (or_left _ _ (eq-eqb j j refl))) first second

-- two edges with the same ends are closed
two_closed : (edges : List (List ℕ)) (i j : ℕ) → i ≢ j → ends_at edges i ≡ ends_at edges j → IsClosed edges (i ∷ j ∷ [])
two_closed edges i j apart meet =
    let first = both_touch edges i j apart meet in
    All-from_recursion (λ e. All (λ v. 2 ≤ degree_in edges (i ∷ j ∷ []) v) (ends_at edges e)) (i ∷ j ∷ []) (first, (subst (λ (ends : List ℕ). All (λ v. 2 ≤ degree_in edges (i ∷ j ∷ []) v) ends) meet first, tt))

two_places : (edges : List (List ℕ)) (i j : ℕ) → i < j → j < length edges → ArePlaces edges (i ∷ j ∷ [])
two_places edges i j rise inside = (
  increasing_from_Rises 0 (i ∷ j ∷ []) (omega arith, (omega arith, tt)),
  All-from_recursion (λ e. e < length edges) (i ∷ j ∷ []) (omega arith, (omega arith, tt)),
)

-- two edges with the same ends are left
two_left : (edges : List (List ℕ)) (i j : ℕ) → i < j → j < length edges → ends_at edges i ≡ ends_at edges j → Contains (rest_of edges) i × Contains (rest_of edges) j
two_left edges i j rise inside meet =
    let core = rest_is_core edges in
    let places = two_places edges i j rise inside in
    let closed = two_closed edges i j (λ same. omega arith) meet in
    (core.to i (i ∷ j ∷ []) places closed (0, omega arith, refl), core.to j (i ∷ j ∷ []) places closed (1, omega arith, refl))

-- the edges of equal keys are left
pub equal_is_left : (r : Rule) (keys : List (ℕ × List ℕ)) (c seed i j : ℕ) → i ≢ j → i < length keys → j < length keys → key_at keys i ≡ key_at keys j → Contains (rest_of (graph_of r keys c seed)) i
equal_is_left r keys c seed i j apart in_i in_j same =
    let edges : List (List ℕ) = graph_of r keys c seed in
    let many : length edges ≡ length keys = length-map keys (edge_of r (r.size (length keys) c) seed) in
    let meet : ends_at edges i ≡ ends_at edges j = equal_keys_meet r keys c seed i j in_i in_j same in
    ⊎_elim
    (λ (low : i < j). (two_left edges i j low (omega (arith, many, in_j)) meet).0)
    (λ (high : j ≤ i). (two_left edges j i (omega (arith, high, apart)) (omega (arith, many, in_i)) (sym meet)).1)
    (cases_lt i j)

-- a key that is found stands at some place
found_at : (keys : List (ℕ × List ℕ)) (key : List ℕ) (line : ℕ) → first_line keys key ≡ Some line → (p : ℕ) × (p < length keys) × (key_at keys p ≡ key)
found_at [] key line found = absurd (none-some line found)
found_at (k ∷ keys) key line found =
    ⊎_elim
    (λ (same : bytes_eq k.1 key ≡ true). let at : (p : ℕ) × (p < length (k ∷ keys)) × (key_at (k ∷ keys) p ≡ key) = (0, omega arith, (bytes_eq-Decides k.1 key).0 same) in at)
    (λ (differs : bytes_eq k.1 key ≡ false).
    let later = found_at keys key line (sym (cond-false (bytes_eq k.1 key) (Some k.0) (first_line keys key) differs) ∙ found) in
    (suc later.0, omega (arith, later.1), later.2))
    (cases_Bool (bytes_eq k.1 key))

-- two places of keys that are equal
abbrev HasEqual : List (ℕ × List ℕ) → Type 0
HasEqual keys = (p : ℕ) × (q : ℕ) × (p < q) × (q < length keys) × (key_at keys p ≡ key_at keys q)

-- a key that an earlier one equals
equal_to_earlier : (earlier keys : List (ℕ × List ℕ)) (k : ℕ × List ℕ) (line : ℕ) → first_line earlier k.1 ≡ Some line → HasEqual (earlier ++ k ∷ keys)
equal_to_earlier earlier keys k line found =
    let first = found_at earlier k.1 line found in
    let before : key_at (earlier ++ k ∷ keys) first.0 ≡ k.1 = ap (λ (j : ℕ × List ℕ). j.1) (get_or_append_left earlier (k ∷ keys) (0, []) first.0 first.1) ∙ first.2 in
    let here : key_at (earlier ++ k ∷ keys) (length earlier) ≡ k.1 = ap (λ (j : ℕ × List ℕ). j.1) (get_or-append_seam earlier k keys (0, [])) in
    (first.0, length earlier, first.1, omega (arith, length-append earlier (k ∷ keys)), before ∙ sym here)

-- if there is a pair, there are equal keys
pairs_equal : (earlier keys : List (ℕ × List ℕ)) → pairs_after earlier keys ≢ [] → HasEqual (earlier ++ keys)
pairs_equal earlier [] some = absurd (some refl)
pairs_equal earlier (k ∷ keys) some = go (first_line earlier k.1) refl (pairs_equal (earlier ++ k ∷ []) keys) where
  go : (first : Option ℕ) → first_line earlier k.1 ≡ first → (pairs_after (earlier ++ k ∷ []) keys ≢ [] → HasEqual ((earlier ++ k ∷ []) ++ keys)) → HasEqual (earlier ++ k ∷ keys)
  go (Some line) found later = equal_to_earlier earlier keys k line found
  go None none later =
      subst HasEqual (append_assoc earlier (k ∷ []) keys)
      (later (λ nil. some (ap (λ (o : Option ℕ). with_pair o k.0 (pairs_after (earlier ++ k ∷ []) keys)) none ∙ nil)))

-- if there is a pair of keys that a seed leaves, every seed leaves an edge
pub none_works : (r : Rule) (keys : List (ℕ × List ℕ)) (c seed : ℕ) → pairs (keys_at keys (rest_of (graph_of r keys c seed))) ≢ [] → (other : ℕ) → rest_of (graph_of r keys c other) ≢ []
none_works r keys c seed some other nil =
    let edges : List (List ℕ) = graph_of r keys c seed in
    let rest : List ℕ = rest_of edges in
    let places = rest_are_places edges in
    let many : length edges ≡ length keys = length-map keys (edge_of r (r.size (length keys) c) seed) in
    let two = pairs_equal [] (keys_at keys rest) some in
    let long : length (keys_at keys rest) ≡ length rest = length-map rest (λ e. get_or keys e (0, [])) in
    let in_q : two.1 < length rest = omega (arith, long, two.3) in
    let in_p : two.0 < length rest = omega (arith, in_q, two.2) in
    let i : ℕ = get_or rest two.0 0 in
    let j : ℕ = get_or rest two.1 0 in
    let rise : i < j = AllPairs-from_increasing rest places.0 two.0 two.1 0 two.2 in_q in
    let in_i : i < length edges = All-get_or (λ e. e < length edges) rest two.0 0 in_p places.1 in
    let in_j : j < length edges = All-get_or (λ e. e < length edges) rest two.1 0 in_q places.1 in
    let same : key_at keys i ≡ key_at keys j =
    sym (ap (λ (k : ℕ × List ℕ). k.1) (get_or-map (λ e. get_or keys e (0, [])) rest two.0 0 (0, []) in_p))
    ∙ two.4
    ∙ ap (λ (k : ℕ × List ℕ). k.1) (get_or-map (λ e. get_or keys e (0, [])) rest two.1 0 (0, []) in_q) in
    let left = equal_is_left r keys c other i j (λ e. omega (arith, rise, e)) (omega (arith, many, in_i)) (omega (arith, many, in_j)) same in
    omega (arith, left.1, ap length nil)
