-- The report of a 2-core holds exactly if it is true.
use Rattle.std.proofs.Common.{◌≡◌, ◌≢◌, ℕ, suc, ◌<◌, ◌≤◌, eqb, List, [], ◌∷◌, ◌++◌, map, length, sym, refl, ap, ◌∙◌, subst, arith, Option, None, Some}
use Rattle.std.specs.List.{All, filter, flat_map}
use Rattle.std.proofs.lemmas.Bool.{eq-eqb, ne_eqb}
use Rattle.std.proofs.lemmas.List.{length-map}
use Rattle.std.proofs.lemmas.List.Elements.{All-contains}
use Rattle.cm_judge_verdict.specs.Judged.{Judged, core_in, edges_in, graph_in, pairs_in}
use Rattle.cm_judge_verdict.specs.Truth.{IsTrueCore}
use Rattle.cm_judge_verdict.specs.Verdicts.{ends_of, lacking, missing, no_key, other_ends, other_pairs, same_edge, same_pair, touched_once, touching}
use Rattle.cm_judge_verdict.specs.declared.verdict.Reason.TheVariants.{Ends, Missing, NoKey, NoPair, Once}
use Rattle.cm_judge_verdict.specs.LackingLaws.{all_there, append_none, edge_equality, lowest_none, map_none, no_member, none_lacking, none_lowest, number_equality, pair_equality}
use Rattle.cm_judge_verdict.specs.MemberLaws.{All-from_In, Comes, In, In-filter, In-filter_back, In-flat, In-flat_back, In-from_has, In-get_or, In-map, In-map_back, RisesBy-from_Rises, RisesBy-weaker, filter_none, has-from_In, rising_equal, same_by}
use Rattle.cm_judge_verdict.specs.Rising.{RisesBy}
use Rattle.cm_judge_verdict.specs.PlaceLaws.{KeysRise, Shapes, edge_in, edges_rise, ends_in, graph_length, key_in, keys_rise, touching_is}
use Rattle.cm_peel.specs.CoreLaws.{left_after_rises, rest_are_places, rest_is_closed, rest_is_core}
use Rattle.cm_peel.specs.SetLaws.{Contains-from_has, Rises, Rises-filter, Rises-from_increasing, Rises-numbers, count_by_some, has-from_Contains, has-numbers, has-numbers_high, increasing_from_Rises}
use Rattle.cm_spec.specs.Core.{IsClosed, IsCore}
use Rattle.cm_spec.specs.Graph.{ArePlaces, degree_in, ends_at, places, touches}
use Rattle.cm_spec.specs.Lists.{has}
use Rattle.cm_spec.specs.Rounds.{rest_of}
use Rattle.cm_witness_gather.specs.Pairs.{first_line, pairs, pairs_after, with_pair}
use Rattle.cm_witness_gather.specs.declared.certificate.CoreEdge.{CoreEdge}
use Rattle.cm_witness_gather.specs.declared.certificate.Pair.{Pair}

-- what the lists of a report are, and the keys
pub record Given (j : Judged) (edges : List CoreEdge) (equal : List Pair) : Type 0 where
  pub shapes : Shapes j.rule
  pub keys_rise : KeysRise j
  pub edges_rise : RisesBy (λ e. e.line) 1 edges
  pub pairs_rise : RisesBy (λ p. p.again) 1 equal
  pub some : 0 < length edges

-- the places of a graph, and of its residual graph
pub place_within : (j : Judged) (e : ℕ) → In (places (graph_in j)) e → e < length j.keys
place_within j e m = omega (arith, has-numbers_high 0 (length (graph_in j)) e (has-from_In _ e m), graph_length j)

pub place_in : (j : Judged) (e : ℕ) → e < length j.keys → In (places (graph_in j)) e
place_in j e h = In-from_has _ e (has-numbers 0 (length (graph_in j)) e (omega arith) (omega (arith, graph_length j)))

pub rest_within : (j : Judged) (e : ℕ) → In (rest_of (graph_in j)) e → e < length j.keys
rest_within j e m =
    let g : List (List ℕ) = graph_in j in
    let h : e < length g = All-contains (λ x. x < length g) (rest_of g) e (rest_are_places g).1 (Contains-from_has _ e (has-from_In _ e m)) in
    omega (arith, graph_length j)

pub rest_rises : (j : Judged) → Rises 0 (rest_of (graph_in j))
rest_rises j = left_after_rises (graph_in j) (length (graph_in j))

pub all_rise : (j : Judged) → KeysRise j → RisesBy (λ x. x.line) 0 (edges_in j)
all_rise j rise = edges_rise j rise (places (graph_in j)) (Rises-numbers 0 (length (graph_in j))) (place_within j)

pub core_rises : (j : Judged) → KeysRise j → RisesBy (λ x. x.line) 0 (core_in j)
core_rises j rise = edges_rise j rise (rest_of (graph_in j)) (rest_rises j) (rest_within j)

pub core_there : (j : Judged) (x : CoreEdge) → In (core_in j) x → In (edges_in j) x
core_there j x m =
    let c : Comes (edge_in j) (rest_of (graph_in j)) x = In-map_back (edge_in j) (rest_of (graph_in j)) x m in
    subst (In (edges_in j)) c.is (In-map (edge_in j) (places (graph_in j)) c.from (place_in j c.from (rest_within j c.from c.member)))

-- pairs rise as the keys do
pub pairs_rise_after : (earlier keys : List (ℕ × List ℕ)) (low : ℕ) → RisesBy (λ k. k.0) low keys → RisesBy (λ p. p.again) low (pairs_after earlier keys)
pairs_rise_after earlier [] low r = tt
pairs_rise_after earlier (k ∷ keys) low r = go (first_line earlier k.1) (pairs_rise_after (earlier ++ k ∷ []) keys (suc k.0) r.1) where
  go : (o : Option ℕ) → RisesBy (λ p. p.again) (suc k.0) (pairs_after (earlier ++ k ∷ []) keys) → RisesBy (λ p. p.again) low (with_pair o k.0 (pairs_after (earlier ++ k ∷ []) keys))
  go None s = RisesBy-weaker (λ (p : Pair). p.again) (suc k.0) low _ (omega (arith, r.0)) s
  go (Some first) s = (r.0, s)

-- two rising lists of pairs are the same if no pair is in only one of them
pub same_pairs : (equal real : List Pair) → RisesBy (λ p. p.again) 1 equal → RisesBy (λ p. p.again) 0 real → other_pairs real equal ≡ None → equal ≡ real
same_pairs equal real r s none =
    let lists = append_none _ _ (map_none (λ (p : Pair). p.again) _ (lowest_none NoPair _ none)) in
    rising_equal (λ (p : Pair). p.again) 1 0 equal real r s (all_there same_pair pair_equality real equal lists.0) (all_there same_pair pair_equality equal real lists.1)

pub no_other_pairs : (equal real : List Pair) → equal ≡ real → other_pairs real equal ≡ None
no_other_pairs equal real e =
    let none : lacking same_pair real real ≡ [] = none_lacking same_pair pair_equality real real (λ x m. m) in
    let lists : lacking same_pair real real ++ lacking same_pair real real ≡ [] = rw none refl in
    subst (λ ps. other_pairs real ps ≡ None) (sym e) (none_lowest NoPair _ (ap (map (λ (p : Pair). p.again)) lists))

-- the places of the edges of a report
abbrev pub lines_in : List CoreEdge → List ℕ
lines_in edges = map (λ e. e.line) edges

abbrev pub places_in : Judged → List CoreEdge → List ℕ
places_in j edges = filter (λ e. has (lines_in edges) (edge_in j e).line) (places (graph_in j))

pub in_places : (j : Judged) (edges : List CoreEdge) (e : ℕ) → In (places_in j edges) e → e < length j.keys
in_places j edges e m = place_within j e (In-filter_back _ (places (graph_in j)) e m).0

pub places_rise : (j : Judged) (edges : List CoreEdge) → Rises 0 (places_in j edges)
places_rise j edges = Rises-filter _ 0 (places (graph_in j)) (Rises-numbers 0 (length (graph_in j)))

-- an edge of the graph with the line of one of these is that one
pub same_line : (j : Judged) (edges : List CoreEdge) → KeysRise j → ((x : CoreEdge) → In edges x → In (edges_in j) x) → (x : CoreEdge) → In (edges_in j) x → In (lines_in edges) x.line → In edges x
same_line j edges rise there x m l =
    let c : Comes (λ (e : CoreEdge). e.line) edges x.line = In-map_back (λ (e : CoreEdge). e.line) edges x.line l in
    subst (In edges) (same_by (λ (e : CoreEdge). e.line) 0 (edges_in j) c.from x (all_rise j rise) (there c.from c.member) m c.is) c.member

-- edges of the graph are those at their places
pub at_places : (j : Judged) (edges : List CoreEdge) → KeysRise j → RisesBy (λ e. e.line) 1 edges → ((x : CoreEdge) → In edges x → In (edges_in j) x) → edges ≡ map (edge_in j) (places_in j edges)
at_places j edges rise rises there =
    rising_equal (λ (e : CoreEdge). e.line) 1 0 edges (map (edge_in j) (places_in j edges)) rises
    (edges_rise j rise (places_in j edges) (places_rise j edges) (in_places j edges))
    (λ x m.
    let c : Comes (edge_in j) (places (graph_in j)) x = In-map_back (edge_in j) (places (graph_in j)) x (there x m) in
    let line : In (lines_in edges) (edge_in j c.from).line = subst (λ (y : CoreEdge). In (lines_in edges) y.line) (sym c.is) (In-map (λ (e : CoreEdge). e.line) edges x m) in
    subst (In (map (edge_in j) (places_in j edges))) c.is (In-map (edge_in j) (places_in j edges) c.from (In-filter _ (places (graph_in j)) c.from c.member (has-from_In _ _ line))))
    (λ x m.
    let c : Comes (edge_in j) (places_in j edges) x = In-map_back (edge_in j) (places_in j edges) x m in
    let b = In-filter_back _ (places (graph_in j)) c.from c.member in
    subst (In edges) c.is (same_line j edges rise there (edge_in j c.from) (In-map (edge_in j) (places (graph_in j)) c.from b.0) (In-from_has _ _ b.1)))

-- if no vertex is touched by one of these edges alone, their places are a closed set
pub places_closed : (j : Judged) (edges : List CoreEdge) → Shapes j.rule → edges ≡ map (edge_in j) (places_in j edges) → filter (λ v. eqb (touching edges v) 1) (flat_map ends_of edges) ≡ [] → IsClosed (graph_in j) (places_in j edges)
places_closed j edges shapes are once =
    All-from_In (λ e. All (λ v. 2 ≤ degree_in (graph_in j) (places_in j edges) v) (ends_at (graph_in j) e)) (places_in j edges) (λ e m.
    All-from_In (λ v. 2 ≤ degree_in (graph_in j) (places_in j edges) v) (ends_at (graph_in j) e) (λ v n. two e m v n))
  where
    two : (e : ℕ) → In (places_in j edges) e → (v : ℕ) → In (ends_at (graph_in j) e) v → 2 ≤ degree_in (graph_in j) (places_in j edges) v
    two e m v n =
        let x : CoreEdge = edge_in j e in
        let member : In edges x = subst (λ (es : List CoreEdge). In es x) (sym are) (In-map (edge_in j) (places_in j edges) e m) in
        let end : In (ends_of x) v = subst (λ (vs : List ℕ). In vs v) (sym (ends_in j shapes e (in_places j edges e m))) n in
        let flat : In (flat_map ends_of edges) v = In-flat ends_of edges x v member end in
        let ne : touching edges v ≢ 1 = λ one. no_member (filter (λ v. eqb (touching edges v) 1) (flat_map ends_of edges)) v once (In-filter _ (flat_map ends_of edges) v flat (eq-eqb _ _ one)) in
        let same : touching edges v ≡ degree_in (graph_in j) (places_in j edges) v = ap (λ (es : List CoreEdge). touching es v) are ∙ touching_is j shapes (places_in j edges) (in_places j edges) v in
        let one : 1 ≤ degree_in (graph_in j) (places_in j edges) v = count_by_some (λ y. touches v (ends_at (graph_in j) y)) (places_in j edges) e (has-from_In _ e m) (has-from_In _ v n) in
        omega arith

-- so these edges are in the 2-core
pub in_core : (j : Judged) (edges : List CoreEdge) → edges ≡ map (edge_in j) (places_in j edges) → IsClosed (graph_in j) (places_in j edges) → (x : CoreEdge) → In edges x → In (core_in j) x
in_core j edges are closed x m =
    let g : List (List ℕ) = graph_in j in
    let these : List ℕ = places_in j edges in
    let c : Comes (edge_in j) these x = In-map_back (edge_in j) these x (subst (λ (es : List CoreEdge). In es x) are m) in
    let ok : ArePlaces g these = (increasing_from_Rises 0 these (places_rise j edges), All-from_In (λ e. e < length g) these (λ e n. omega (arith, in_places j edges e n, graph_length j))) in
    let rest : In (rest_of g) c.from = In-from_has _ _ (has-from_Contains _ _ ((rest_is_core g).to c.from these ok closed (Contains-from_has these c.from (has-from_In these c.from c.member)))) in
    subst (In (core_in j)) c.is (In-map (edge_in j) (rest_of g) c.from rest)

-- a report that no reason is against
pub record HasNoReason (j : Judged) (edges : List CoreEdge) (equal : List Pair) : Type 0 where
  pub keys : no_key j edges ≡ None
  pub ends : other_ends j edges ≡ None
  pub once : touched_once edges ≡ None
  pub all : missing j edges ≡ None
  pub pairs : other_pairs (pairs_in j) equal ≡ None

pub edges_are_core : (j : Judged) (edges : List CoreEdge) (equal : List Pair) → Given j edges equal → HasNoReason j edges equal → edges ≡ core_in j
edges_are_core j edges equal given none =
    let there : (x : CoreEdge) → In edges x → In (edges_in j) x = all_there same_edge edge_equality (edges_in j) edges (map_none (λ (e : CoreEdge). e.line) _ (lowest_none Ends _ none.ends)) in
    let are : edges ≡ map (edge_in j) (places_in j edges) = at_places j edges given.keys_rise given.edges_rise there in
    let closed : IsClosed (graph_in j) (places_in j edges) = places_closed j edges given.shapes are (lowest_none Once _ none.once) in
    let lines : (l : ℕ) → In (lines_in (core_in j)) l → In (lines_in edges) l = all_there eqb number_equality (lines_in edges) (lines_in (core_in j)) (lowest_none Missing _ none.all) in
    rising_equal (λ (e : CoreEdge). e.line) 1 0 edges (core_in j) given.edges_rise (core_rises j given.keys_rise) (in_core j edges are closed)
    (λ x m. same_line j edges given.keys_rise there x (core_there j x m) (lines x.line (In-map (λ (e : CoreEdge). e.line) (core_in j) x m)))

pub true_core : (j : Judged) (edges : List CoreEdge) (equal : List Pair) → Given j edges equal → HasNoReason j edges equal → IsTrueCore j edges equal
true_core j edges equal given none =
    let rest : List ℕ = rest_of (graph_in j) in
    let are : edges ≡ core_in j = edges_are_core j edges equal given none in
    let count : length edges ≡ length rest = ap length are ∙ length-map rest (edge_in j) in
    record {
      core = rest;
      is_core = rest_is_core (graph_in j);
      some = omega (arith, given.some);
      edges_are = are;
      equal_are = same_pairs equal (pairs_in j) given.pairs_rise (pairs_rise_after [] (map (key_in j) rest) 0 (keys_rise j given.keys_rise rest (rest_rises j) (rest_within j))) none.pairs;
    }

-- there is one 2-core
core_to : (g : List (List ℕ)) (a b : List ℕ) → IsCore g a → IsCore g b → (e : ℕ) → In a e → In b e
core_to g a b c d e m =
    let w = c.from e (Contains-from_has a e (has-from_In a e m)) in
    In-from_has b e (has-from_Contains b e (d.to e w.0 w.1 w.2 w.3))

core_rising : (g : List (List ℕ)) (a : List ℕ) → IsCore g a → RisesBy (λ x. x) 0 a
core_rising g a c = RisesBy-from_Rises 0 a (Rises-from_increasing 0 a c.rising (λ _. omega arith))

pub one_core : (g : List (List ℕ)) (a b : List ℕ) → IsCore g a → IsCore g b → a ≡ b
one_core g a b c d = rising_equal (λ x. x) 0 0 a b (core_rising g a c) (core_rising g b d) (core_to g a b c d) (core_to g b a d c)

-- no reason is against the edges of the 2-core
keys_none : (j : Judged) → no_key j (core_in j) ≡ None
keys_none j = none_lowest NoKey _ (none_lacking eqb number_equality (map (λ (k : ℕ × List ℕ). k.0) j.keys) (lines_in (core_in j)) (λ l m.
    let c : Comes (λ (e : CoreEdge). e.line) (core_in j) l = In-map_back (λ (e : CoreEdge). e.line) (core_in j) l m in
    let d : Comes (edge_in j) (rest_of (graph_in j)) c.from = In-map_back (edge_in j) (rest_of (graph_in j)) c.from c.member in
    let is : (key_in j d.from).0 ≡ l = ap (λ (e : CoreEdge). e.line) d.is ∙ c.is in
    subst (In (map (λ (k : ℕ × List ℕ). k.0) j.keys)) is (In-map (λ (k : ℕ × List ℕ). k.0) j.keys (key_in j d.from) (In-get_or j.keys d.from (0, []) (rest_within j d.from d.member)))))

ends_none : (j : Judged) → other_ends j (core_in j) ≡ None
ends_none j = none_lowest Ends _ (ap (map (λ (e : CoreEdge). e.line)) (none_lacking same_edge edge_equality (edges_in j) (core_in j) (core_there j)))

once_none : (j : Judged) → Shapes j.rule → touched_once (core_in j) ≡ None
once_none j shapes = none_lowest Once _ (filter_none (λ v. eqb (touching (core_in j) v) 1) (flat_map ends_of (core_in j)) (λ v m.
    let g : List (List ℕ) = graph_in j in
    let c = In-flat_back ends_of (core_in j) v m in
    let d : Comes (edge_in j) (rest_of g) c.from = In-map_back (edge_in j) (rest_of g) c.from c.member in
    let end : In (ends_of (edge_in j d.from)) v = subst (λ (x : CoreEdge). In (ends_of x) v) (sym d.is) c.has_it in
    let at : In (ends_at g d.from) v = subst (λ (vs : List ℕ). In vs v) (ends_in j shapes d.from (rest_within j d.from d.member)) end in
    let held : All (λ v. 2 ≤ degree_in g (rest_of g) v) (ends_at g d.from) = All-contains (λ e. All (λ v. 2 ≤ degree_in g (rest_of g) v) (ends_at g e)) (rest_of g) d.from (rest_is_closed g) (Contains-from_has _ _ (has-from_In _ _ d.member)) in
    let two : 2 ≤ degree_in g (rest_of g) v = All-contains (λ v. 2 ≤ degree_in g (rest_of g) v) (ends_at g d.from) v held (Contains-from_has _ _ (has-from_In _ _ at)) in
    let same : touching (core_in j) v ≡ degree_in g (rest_of g) v = touching_is j shapes (rest_of g) (rest_within j) v in
    ne_eqb (touching (core_in j) v) 1 (λ one. absurd (omega arith))))

all_none : (j : Judged) → missing j (core_in j) ≡ None
all_none j = none_lowest Missing _ (none_lacking eqb number_equality (lines_in (core_in j)) (lines_in (core_in j)) (λ l m. m))

pub no_reason : (j : Judged) (edges : List CoreEdge) (equal : List Pair) → Shapes j.rule → IsTrueCore j edges equal → HasNoReason j edges equal
no_reason j edges equal shapes holds =
    let g : List (List ℕ) = graph_in j in
    let core : holds.core ≡ rest_of g = one_core g holds.core (rest_of g) holds.is_core (rest_is_core g) in
    let are : core_in j ≡ edges = sym (holds.edges_are ∙ ap (map (edge_in j)) core) in
    record {
      keys = subst (λ (es : List CoreEdge). no_key j es ≡ None) are (keys_none j);
      ends = subst (λ (es : List CoreEdge). other_ends j es ≡ None) are (ends_none j);
      once = subst (λ (es : List CoreEdge). touched_once es ≡ None) are (once_none j shapes);
      all = subst (λ (es : List CoreEdge). missing j es ≡ None) are (all_none j);
      pairs = no_other_pairs equal (pairs_in j) (holds.equal_are ∙ ap (λ (these : List ℕ). pairs (map (key_in j) these)) core);
    }
