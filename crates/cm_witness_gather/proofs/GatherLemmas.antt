-- Passes over keys that gather the edges at some places.
use Rattle.std.proofs.Common.{◌≡◌, ◌∙◌, ℕ, ◌+◌, ◌<◌, ◌≤◌, All, Bool, true, false, cond, List, [], ◌∷◌, ◌++◌, length, map, filter, take, drop, get_or, Some, Result, Ok, Err, IfErr, IsErrAnd, ap, sym, subst, arith, add-zero, append-nil, slice_get}
use Rattle.std.proofs.lemmas.List.{get_or-drop, map_more, take_all, take_more}
use Rattle.std.proofs.lemmas.Option.{get_or_from_slice_get}
use Rattle.cm_io.specs.Passes.{Told, GivesKey}
use Rattle.cm_spec.specs.Graph.{ends_at}
use Rattle.cm_witness_gather.specs.Candidates.{FindsEqual, is_twice}
use Rattle.cm_witness_gather.specs.Cores.{EqualKeysMeet, core_edge, core_edges, keys_at}
use Rattle.cm_witness_gather.specs.Noted.{AreNoted, TakesKey}
use Rattle.cm_witness_gather.specs.Pairs.{pairs}
use Rattle.cm_witness_gather.specs.declared.candidates.Hits.{Hits}
use Rattle.cm_witness_gather.specs.declared.certificate.CoreEdge.{CoreEdge}
use Rattle.cm_witness_gather.specs.declared.certificate.Pair.{Pair}
use Rattle.cm_witness_gather.proofs.KeptLemmas.{kept-push, pairs_kept}

-- what holds of a fault holds of what a call returns as the same fault
pub handed_on : {T E : Type 0} (result : Result T E) (fault : E) (F : E → Type 0) → IsErrAnd result (λ e. e ≡ fault) → F fault → IfErr result F
handed_on (Ok x) fault F is holds = absurd is
handed_on (Err e) fault F is holds = subst F (sym is) holds

-- the key that a pass gives at a place
given_at : (keys later : List (ℕ × List ℕ)) (e line : ℕ) (key : List ℕ) → drop e keys ≡ (line, key) ∷ later → get_or keys e (0, []) ≡ (line, key)
given_at keys later e line key is =
    ap (λ (i : ℕ). get_or keys i (0, [])) (sym (add-zero e))
    ∙ sym (get_or-drop e keys 0 (0, []))
    ∙ ap (λ (l : List (ℕ × List ℕ)). get_or l 0 (0, [])) is

-- the key at a place was passed, which is no candidate
pub passed : (told : Told) (e place now line : ℕ) (candidate : Bool) (noted : List (ℕ × List ℕ)) (found : List Pair) → e ≡ place → candidate ≡ false → (key : List ℕ) × GivesKey told place now line key (Ok true) → TakesKey told.keys e line candidate noted found noted found
passed told e place now line candidate noted found at is gives = record {
  key = gives.0;
  is = given_at told.keys (drop now told.keys) e line gives.0 (ap (λ (n : ℕ). drop n told.keys) at ∙ gives.1);
  notes = λ earlier are.
      let same : earlier ≡ earlier ++ cond candidate ((line, gives.0) ∷ []) [] = sym (append-nil earlier) ∙ ap (λ (b : Bool). earlier ++ cond b ((line, gives.0) ∷ []) []) (sym is) in
      subst (λ (l : List (ℕ × List ℕ)). AreNoted l noted found) same are;
}

-- it was noted, which is one
pub taken : (told : Told) (e place now line : ℕ) (key : List ℕ) (candidate : Bool) (noted noted' : List (ℕ × List ℕ)) (found found' : List Pair) → e ≡ place → candidate ≡ true → GivesKey told place now line key (Ok true)
    → ((earlier : List (ℕ × List ℕ)) → AreNoted earlier noted found → AreNoted (earlier ++ (line, key) ∷ []) noted' found')
    → TakesKey told.keys e line candidate noted found noted' found'
taken told e place now line key candidate noted noted' found found' at is gives notes = record {
  key = key;
  is = given_at told.keys (drop now told.keys) e line key (ap (λ (n : ℕ). drop n told.keys) at ∙ gives);
  notes = λ earlier are. subst (λ (b : Bool). AreNoted (earlier ++ cond b ((line, key) ∷ []) []) noted' found') (sym is) (notes earlier are);
}

-- one edge more is gathered
pub edges_more : (keys : List (ℕ × List ℕ)) (edges : List (List ℕ)) (rest : List ℕ) (i line : ℕ) (key ends : List ℕ) (core core' : List CoreEdge) (edge : CoreEdge)
    → i < length rest
    → get_or keys (get_or rest i 0) (0, []) ≡ (line, key)
    → slice_get edges (get_or rest i 0) ≡ Some ends
    → core ≡ core_edges keys edges (take i rest)
    → edge ≡ core_edge (line, key) ends
    → core' ≡ core ++ edge ∷ []
    → core' ≡ core_edges keys edges (take (i + 1) rest)
edges_more keys edges rest i line key ends core core' edge inside is are before made more =
    let e = get_or rest i 0 in
    let here : core_edge (get_or keys e (0, [])) (get_or edges e []) ≡ edge =
    ap (λ (k : ℕ × List ℕ). core_edge k (get_or edges e [])) is
    ∙ ap (λ (l : List ℕ). core_edge (line, key) l) (get_or_from_slice_get edges e ends [] are)
    ∙ sym made in
    more
    ∙ ap (λ (l : List CoreEdge). l ++ edge ∷ []) before
    ∙ ap (λ (x : CoreEdge). core_edges keys edges (take i rest) ++ x ∷ []) (sym here)
    ∙ sym (map_more (λ (e : ℕ). core_edge (get_or keys e (0, [])) (get_or edges e [])) rest i 0 inside)

-- the candidates among the edges at some places, by a table
abbrev pub candidates_in : List Hits → List (List ℕ) → List ℕ → List ℕ
candidates_in words edges places = filter (λ e. is_twice words (ends_at edges e)) places

-- one key more is passed
pub keys_more : (keys : List (ℕ × List ℕ)) (edges : List (List ℕ)) (words : List Hits) (rest : List ℕ) (i line : ℕ) (ends : List ℕ) (candidate : Bool) (noted noted' : List (ℕ × List ℕ)) (found found' : List Pair)
    → i < length rest
    → slice_get edges (get_or rest i 0) ≡ Some ends
    → candidate ≡ is_twice words ends
    → TakesKey keys (get_or rest i 0) line candidate noted found noted' found'
    → AreNoted (keys_at keys (candidates_in words edges (take i rest))) noted found
    → AreNoted (keys_at keys (candidates_in words edges (take (i + 1) rest))) noted' found'
keys_more keys edges words rest i line ends candidate noted noted' found found' inside are is takes before =
    let e = get_or rest i 0 in
    let test = λ (e : ℕ). is_twice words (ends_at edges e) in
    let key_of = λ (e : ℕ). get_or keys e (0, []) in
    let earlier = keys_at keys (candidates_in words edges (take i rest)) in
    let passes : candidate ≡ test e = is ∙ ap (is_twice words) (sym (get_or_from_slice_get edges e ends [] are)) in
    let more : earlier ++ cond candidate ((line, takes.key) ∷ []) [] ≡ keys_at keys (candidates_in words edges (take (i + 1) rest)) =
    ap (λ (b : Bool). earlier ++ cond b ((line, takes.key) ∷ []) []) passes
    ∙ ap (λ (k : ℕ × List ℕ). earlier ++ cond (test e) (k ∷ []) []) (sym takes.is)
    ∙ sym (kept-push test key_of (take i rest) e)
    ∙ ap (λ (l : List ℕ). map key_of (filter test l)) (sym (take_more rest i 0 inside)) in
    subst (λ (l : List (ℕ × List ℕ)). AreNoted l noted' found') more (takes.notes earlier before)

-- the pairs among the candidates are those among all
pub pairs_all : (keys : List (ℕ × List ℕ)) (edges : List (List ℕ)) (words : List Hits) (rest : List ℕ) (found : List Pair) (noted : List (ℕ × List ℕ)) (i : ℕ)
    → length keys ≡ length edges
    → All (λ e. e < length edges) rest
    → EqualKeysMeet keys edges
    → FindsEqual (is_twice words) edges rest
    → length rest ≤ i
    → AreNoted (keys_at keys (candidates_in words edges (take i rest))) noted found
    → found ≡ pairs (keys_at keys rest)
pairs_all keys edges words rest found noted i long inside meet finds past are =
    are.paired
    ∙ ap (λ (l : List ℕ). pairs (keys_at keys (candidates_in words edges l))) (take_all i rest past)
    ∙ pairs_kept (λ (e : ℕ). is_twice words (ends_at edges e)) (λ (e : ℕ). get_or keys e (0, [])) rest (λ a b below within same.
    let ends = meet (get_or rest a 0) (get_or rest b 0) (omega (arith, long, inside a 0)) (omega (arith, long, inside b 0 within)) same in
    let second = finds a b below within ends in
    (ap (is_twice words) ends ∙ second, second))
