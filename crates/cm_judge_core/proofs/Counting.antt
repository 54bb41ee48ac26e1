-- Counts of edges at vertices, up to two.
use Rattle.std.proofs.Common.{◌≡◌, ◌≢◌, ◌⊎◌, ℕ, ◌+◌, ◌<◌, ◌≤◌, Bool, true, false, cond, eqb, ◌||◌, min, List, [], ◌∷◌, length, get_or, get_or-set_other, get_or-set_same, set, take, sym, refl, ap, ◌∙◌, subst, inl, inr, arith, Option, None, Some, length-set, option_to_list, slice_index}
use Rattle.std.specs.List.{All, flat_map}
use Rattle.std.proofs.lemmas.Bool.{cases_Bool, cases_eq, cases_lt, eq-eqb, eqb-true, ne_eqb}
use Rattle.std.proofs.lemmas.List.{take_all}
use Rattle.std.proofs.lemmas.List.Sums.{count_by_more_no, count_by_more_yes}
use Rattle.cm_judge_verdict.specs.Verdicts.{ends_of, least, lone_vertices, touching}
use Rattle.cm_judge_verdict.specs.MemberLaws.{All-at, ComesFlat, In, In-append_left, In-append_right, In-filter, In-filter_back, In-flat_back, In-from_has, filter_none}
use Rattle.cm_judge_core.specs.LeastLaws.{least_is}
use Rattle.cm_peel.specs.SetLaws.{count_by-cons}
use Rattle.cm_spec.specs.Graph.{IsEdge, touches}
use Rattle.cm_witness_gather.specs.declared.certificate.CoreEdge.{CoreEdge}

-- one more at a vertex, up to two
abbrev pub bumped : List ℕ → ℕ → List ℕ
bumped xs a = set xs a (min 2 (slice_index xs a + 1))

pub bumped_at : (xs : List ℕ) (a v k : ℕ) → a < length xs → slice_index xs v ≡ min 2 k → slice_index (bumped xs a) v ≡ min 2 (k + cond (eqb a v) 1 0)
bumped_at xs a v k h is = go (cases_eq v a) where
  go : (v ≡ a) ⊎ (v ≡ a → ⊥) → slice_index (bumped xs a) v ≡ min 2 (k + cond (eqb a v) 1 0)
  go (inl e) =
      let one : cond {A = ℕ} (eqb a v) 1 0 ≡ 1 = ap (λ (b : Bool). cond {A = ℕ} b 1 0) (eq-eqb a v (sym e)) in
      let here : slice_index (bumped xs a) v ≡ min 2 (slice_index xs a + 1) = ap (λ (i : ℕ). slice_index (bumped xs a) i) e ∙ get_or-set_same xs a (min 2 (slice_index xs a + 1)) 0 h in
      let same : slice_index xs a ≡ min 2 k = ap (λ (i : ℕ). slice_index xs i) (sym e) ∙ is in
      omega arith
  go (inr ne) =
      let none : cond {A = ℕ} (eqb a v) 1 0 ≡ 0 = ap (λ (b : Bool). cond {A = ℕ} b 1 0) (ne_eqb a v (λ e. ne (sym e))) in
      let here : slice_index (bumped xs a) v ≡ slice_index xs v = get_or-set_other xs a v (min 2 (slice_index xs a + 1)) 0 ne in
      omega arith

-- distinct ends count a vertex at most once
pub two_ends : (a b v : ℕ) → a ≢ b → cond {A = ℕ} (eqb a v) 1 0 + cond {A = ℕ} (eqb b v) 1 0 ≡ cond {A = ℕ} (touches v (a ∷ b ∷ [])) 1 0
two_ends a b v ne = go (eqb a v) refl (eqb b v) refl where
  go : (x : Bool) → eqb a v ≡ x → (y : Bool) → eqb b v ≡ y → cond {A = ℕ} x 1 0 + cond {A = ℕ} y 1 0 ≡ cond {A = ℕ} (x || (y || false)) 1 0
  go true p true q = absurd (ne (eqb-true a v p ∙ sym (eqb-true b v q)))
  go true p false q = refl
  go false p true q = refl
  go false p false q = refl

pub three_ends : (a b c v : ℕ) → a ≢ b → a ≢ c → b ≢ c → cond {A = ℕ} (eqb a v) 1 0 + cond {A = ℕ} (eqb b v) 1 0 + cond {A = ℕ} (eqb c v) 1 0 ≡ cond {A = ℕ} (touches v (a ∷ b ∷ c ∷ [])) 1 0
three_ends a b c v ab ac bc = go (eqb a v) refl (eqb b v) refl (eqb c v) refl where
  go : (x : Bool) → eqb a v ≡ x → (y : Bool) → eqb b v ≡ y → (z : Bool) → eqb c v ≡ z → cond {A = ℕ} x 1 0 + cond {A = ℕ} y 1 0 + cond {A = ℕ} z 1 0 ≡ cond {A = ℕ} (x || (y || (z || false))) 1 0
  go true p true q z r = absurd (ab (eqb-true a v p ∙ sym (eqb-true b v q)))
  go true p false q true r = absurd (ac (eqb-true a v p ∙ sym (eqb-true c v r)))
  go false p true q true r = absurd (bc (eqb-true b v q ∙ sym (eqb-true c v r)))
  go true p false q false r = refl
  go false p true q false r = refl
  go false p false q true r = refl
  go false p false q false r = refl

-- one more edge
pub touching_more : (edges : List CoreEdge) (i : ℕ) (d : CoreEdge) (v : ℕ) → i < length edges → touching (take (i + 1) edges) v ≡ touching (take i edges) v + cond (touches v (ends_of (get_or edges i d))) 1 0
touching_more edges i d v h = go (touches v (ends_of (get_or edges i d))) refl where
  go : (b : Bool) → touches v (ends_of (get_or edges i d)) ≡ b → touching (take (i + 1) edges) v ≡ touching (take i edges) v + cond b 1 0
  go true is = count_by_more_yes (λ e. touches v (ends_of e)) edges i d h is
  go false is = count_by_more_no (λ e. touches v (ends_of e)) edges i d h is ∙ omega arith

-- a vertex that an edge touches is one of theirs
pub touched_in : (edges : List CoreEdge) (v : ℕ) → 1 ≤ touching edges v → In (flat_map ends_of edges) v
touched_in [] v h = absurd (omega arith)
touched_in (e ∷ es) v h = go (cases_Bool (touches v (ends_of e))) (touched_in es v) where
  go : (touches v (ends_of e) ≡ true) ⊎ (touches v (ends_of e) ≡ false) → (1 ≤ touching es v → In (flat_map ends_of es) v) → In (flat_map ends_of (e ∷ es)) v
  go (inl here) more = In-append_left (ends_of e) (flat_map ends_of es) v (In-from_has (ends_of e) v here)
  go (inr not_here) more =
      let none : cond {A = ℕ} (touches v (ends_of e)) 1 0 ≡ 0 = ap (λ (b : Bool). cond {A = ℕ} b 1 0) not_here in
      In-append_right (ends_of e) (flat_map ends_of es) v (more (omega (arith, count_by-cons (λ (x : CoreEdge). touches v (ends_of x)) e es)))

-- the first vertex with a count of one is the lowest that one edge touches
pub lone_is : (edges : List CoreEdge) (v : ℕ) → touching edges v ≡ 1 → ((u : ℕ) → u < v → touching edges u ≢ 1) → least (lone_vertices edges) ≡ Some v
lone_is edges v one first = least_is (lone_vertices edges) v
    (In-filter (λ u. eqb (touching edges u) 1) (flat_map ends_of edges) v (touched_in edges v (omega arith)) (eq-eqb _ _ one))
    (λ u m.
    let is : touching edges u ≡ 1 = eqb-true (touching edges u) 1 (In-filter_back (λ u. eqb (touching edges u) 1) (flat_map ends_of edges) u m).1 in
    later (cases_lt u v) is)
  where
    later : {u : ℕ} → (u < v) ⊎ (v ≤ u) → touching edges u ≡ 1 → v ≤ u
    later (inl less) is = absurd (first _ less is)
    later (inr more) is = more

abbrev pub AreEdgesOver : ℕ → List CoreEdge → Type 0
AreEdgesOver n edges = All (λ e. IsEdge n (ends_of e)) edges

pub none_lone : (edges : List CoreEdge) (n : ℕ) → AreEdgesOver n edges → ((u : ℕ) → u < n → touching edges u ≢ 1) → least (lone_vertices edges) ≡ None
none_lone edges n are none = ap least (filter_none (λ u. eqb (touching edges u) 1) (flat_map ends_of edges) (λ u m.
    let c : ComesFlat ends_of edges u = In-flat_back ends_of edges u m in
    let edge : IsEdge n (ends_of c.from) = All-at (λ (e : CoreEdge). IsEdge n (ends_of e)) edges c.from are c.member in
    ne_eqb (touching edges u) 1 (none u (All-at (λ v. v < n) (ends_of c.from) u edge.0 c.has_it))))

-- an edge with three ends is counted at each of them, and one with two at both
pub count_three : (a b c d : List ℕ) (e : CoreEdge) (z : ℕ) → e.third ≡ Some z → IsEdge (length a) (ends_of e) → b ≡ bumped a e.first → c ≡ bumped b e.second → d ≡ bumped c z → (v k : ℕ) → slice_index a v ≡ min 2 k → slice_index d v ≡ min 2 (k + cond (touches v (ends_of e)) 1 0)
count_three a b c d e z is edge p q r v k at =
    let ends : ends_of e ≡ e.first ∷ e.second ∷ z ∷ [] = ap (λ (o : Option ℕ). e.first ∷ e.second ∷ option_to_list o) is in
    let distinct : IsEdge (length a) (e.first ∷ e.second ∷ z ∷ []) = subst (IsEdge (length a)) ends edge in
    let long : length b ≡ length a = ap length p ∙ length-set a e.first (min 2 (slice_index a e.first + 1)) in
    let longer : length c ≡ length b = ap length q ∙ length-set b e.second (min 2 (slice_index b e.second + 1)) in
    let ha : e.first < length a = distinct.0 0 0 (omega arith) in
    let hb : e.second < length a = distinct.0 1 0 (omega arith) in
    let hc : z < length a = distinct.0 2 0 (omega arith) in
    let one : slice_index b v ≡ min 2 (k + cond {A = ℕ} (eqb e.first v) 1 0) = ap (λ (xs : List ℕ). slice_index xs v) p ∙ bumped_at a e.first v k ha at in
    let two : slice_index c v ≡ min 2 (k + cond {A = ℕ} (eqb e.first v) 1 0 + cond {A = ℕ} (eqb e.second v) 1 0) = ap (λ (xs : List ℕ). slice_index xs v) q ∙ bumped_at b e.second v _ (omega arith) one in
    let three : slice_index d v ≡ min 2 (k + cond {A = ℕ} (eqb e.first v) 1 0 + cond {A = ℕ} (eqb e.second v) 1 0 + cond {A = ℕ} (eqb z v) 1 0) = ap (λ (xs : List ℕ). slice_index xs v) r ∙ bumped_at c z v _ (omega arith) two in
    let sum : cond {A = ℕ} (eqb e.first v) 1 0 + cond {A = ℕ} (eqb e.second v) 1 0 + cond {A = ℕ} (eqb z v) 1 0 ≡ cond {A = ℕ} (touches v (e.first ∷ e.second ∷ z ∷ [])) 1 0 = three_ends e.first e.second z v (distinct.1 0 1 0 (omega arith) (omega arith)) (distinct.1 0 2 0 (omega arith) (omega arith)) (distinct.1 1 2 0 (omega arith) (omega arith)) in
    let same : cond {A = ℕ} (touches v (ends_of e)) 1 0 ≡ cond {A = ℕ} (touches v (e.first ∷ e.second ∷ z ∷ [])) 1 0 = ap (λ (vs : List ℕ). cond {A = ℕ} (touches v vs) 1 0) ends in
    three ∙ ap (min 2) (omega (arith, sum, same))

pub count_two : (a b c : List ℕ) (e : CoreEdge) → e.third ≡ None → IsEdge (length a) (ends_of e) → b ≡ bumped a e.first → c ≡ bumped b e.second → (v k : ℕ) → slice_index a v ≡ min 2 k → slice_index c v ≡ min 2 (k + cond (touches v (ends_of e)) 1 0)
count_two a b c e is edge p q v k at =
    let ends : ends_of e ≡ e.first ∷ e.second ∷ [] = ap (λ (o : Option ℕ). e.first ∷ e.second ∷ option_to_list o) is in
    let distinct : IsEdge (length a) (e.first ∷ e.second ∷ []) = subst (IsEdge (length a)) ends edge in
    let long : length b ≡ length a = ap length p ∙ length-set a e.first (min 2 (slice_index a e.first + 1)) in
    let ha : e.first < length a = distinct.0 0 0 (omega arith) in
    let hb : e.second < length a = distinct.0 1 0 (omega arith) in
    let one : slice_index b v ≡ min 2 (k + cond {A = ℕ} (eqb e.first v) 1 0) = ap (λ (xs : List ℕ). slice_index xs v) p ∙ bumped_at a e.first v k ha at in
    let two : slice_index c v ≡ min 2 (k + cond {A = ℕ} (eqb e.first v) 1 0 + cond {A = ℕ} (eqb e.second v) 1 0) = ap (λ (xs : List ℕ). slice_index xs v) q ∙ bumped_at b e.second v _ (omega arith) one in
    let sum : cond {A = ℕ} (eqb e.first v) 1 0 + cond {A = ℕ} (eqb e.second v) 1 0 ≡ cond {A = ℕ} (touches v (e.first ∷ e.second ∷ [])) 1 0 = two_ends e.first e.second v (distinct.1 0 1 0 (omega arith) (omega arith)) in
    let same : cond {A = ℕ} (touches v (ends_of e)) 1 0 ≡ cond {A = ℕ} (touches v (e.first ∷ e.second ∷ [])) 1 0 = ap (λ (vs : List ℕ). cond {A = ℕ} (touches v vs) 1 0) ends in
    two ∙ ap (min 2) (omega (arith, sum, same))

-- the counts of all edges
pub at_end : (edges : List CoreEdge) (i v cell : ℕ) → length edges ≤ i → cell ≡ min 2 (touching (take i edges) v) → cell ≡ min 2 (touching edges v)
at_end edges i v cell h is = is ∙ ap (λ (es : List CoreEdge). min 2 (touching es v)) (take_all i edges h)
