-- What one half-edge more or less does to the degree and to the xor of a vertex, and what the xor says at degree one.
use Rattle.std.proofs.Common.{◌≡◌, ◌≢◌, ◌⊎◌, ℕ, zero, suc, ◌+◌, ◌*◌, ◌/◌, ◌<◌, ◌≤◌, Bool, true, false, cond, not, List, [], ◌∷◌, length, get_or, set, Option, Some, sym, refl, ap, ◌∙◌, subst, inl, inr, arith, bit_xor, replicate, get_or-set_other, get_or-set_same}
use Rattle.std.specs.List.{slice_get, count_by, position_or_len}
use Rattle.std.specs.Int.Bits.{xor_assoc, xor_self, xor_zero_r}
use Rattle.std.proofs.lemmas.Bool.{eqb-true, cases_Bool, cases_eq, cond-true, cond-false}
use Rattle.std.proofs.lemmas.Nat.{xor_comm}
use Rattle.std.proofs.lemmas.List.Sums.{sum_by-cons, count_by-le-length}
use Rattle.std.proofs.lemmas.Option.{slice_get-get_or}
use Rattle.std.proofs.lemmas.List.{length-replicate, get_or-replicate}
use Rattle.std.proofs.Math.ListN.{length-set}
use Rattle.cm_graph_edges.specs.Graph.{Links, lies_in, slot_touches, sole_of, place_of, is_free}
use Rattle.cm_graph.specs.Next.{halves_at, AreNext, AreApart}
use Rattle.cm_graph.specs.Kept.{AreKept, with_place, without_place, share_of, xor_of}
use Rattle.cm_graph_edges.specs.declared.incidence.Half.{Half}
use Rattle.cm_graph.specs.declared.wide.Vertex.{Vertex}
use Rattle.cm_graph.proofs.Positions.{touched_at, place_is, long, in_more, apart_less, apart_more, touches_less, touches_more, touches_other, count_here, count_other, bare_half, bare_count}
use Rattle.cm_spec.specs.declared.limits.TheConstants.{MAX_EDGES}

swap_ends : (a w b : ℕ) → bit_xor (bit_xor a w) b ≡ bit_xor (bit_xor b w) a
swap_ends a w b = ap (λ x. bit_xor x b) (xor_comm a w) ∙ (xor_assoc w a b ∙ (ap (bit_xor w) (xor_comm a b) ∙ (sym (xor_assoc w b a) ∙ ap (λ x. bit_xor x a) (xor_comm w b))))

-- the same number on both sides goes
xor_back : (a t : ℕ) → bit_xor (bit_xor a t) t ≡ a
xor_back a t = xor_assoc a t t ∙ (ap (bit_xor a) (xor_self t) ∙ xor_zero_r a)

xor_cancel : (a b t : ℕ) → bit_xor a t ≡ bit_xor b t → a ≡ b
xor_cancel a b t h = sym (xor_back a t) ∙ (ap (λ x. bit_xor x t) h ∙ xor_back b t)

-- a write trades one share for another
xor_of-set : (v b : ℕ) (ss : List (List (Option ℕ))) (e : ℕ) (s y : List (Option ℕ)) → slice_get ss e ≡ Some s → bit_xor (xor_of v b (set ss e y)) (share_of v (b + e) s) ≡ bit_xor (xor_of v b ss) (share_of v (b + e) y)
xor_of-set v b [] e s y h = cc
xor_of-set v b (x ∷ ss) zero s y h =
    let is : x ≡ s = cc in
    let z : b + 0 ≡ b = omega arith in
    rw z (rw is (swap_ends (share_of v b y) (xor_of v (suc b) ss) (share_of v b s)))
xor_of-set v b (x ∷ ss) (suc e) s y h =
    let n : b + suc e ≡ suc b + e = omega arith in
    rw n (xor_assoc (share_of v b x) _ _ ∙ (ap (bit_xor (share_of v b x)) (xor_of-set v (suc b) ss e s y h) ∙ sym (xor_assoc (share_of v b x) _ _)))

-- with no half-edge in v the xor is 0
pub xor_of_none : (v b : ℕ) (ss : List (List (Option ℕ))) → count_by (slot_touches v) ss ≡ 0 → xor_of v b ss ≡ 0
xor_of_none v b [] h = refl
xor_of_none v b (s ∷ ss) h = go (xor_of_none v (suc b) ss) (slot_touches v s) refl where
  go : (count_by (slot_touches v) ss ≡ 0 → xor_of v (suc b) ss ≡ 0) → (t : Bool) → slot_touches v s ≡ t → bit_xor (cond (slot_touches v s) (4 * b + position_or_len (lies_in v) s) 0) (xor_of v (suc b) ss) ≡ 0
  go ih true is = absurd (let e : cond (slot_touches v s) 1 0 + count_by (slot_touches v) ss ≡ 0 = sym (sum_by-cons (λ x. cond (slot_touches v x) 1 0) s ss) ∙ h in let o : cond {A = ℕ} (slot_touches v s) 1 0 ≡ 1 = ap (λ (t : Bool). cond {A = ℕ} t 1 0) is in omega arith)
  go ih false is =
      let e : cond (slot_touches v s) 1 0 + count_by (slot_touches v) ss ≡ 0 = sym (sum_by-cons (λ x. cond (slot_touches v x) 1 0) s ss) ∙ h in
      rw is (ih (omega arith))

-- with one half-edge in v the xor is its place, and the first edge that touches v is its edge
abbrev pub at_place : ℕ → ℕ → List (List (Option ℕ)) → ℕ
at_place v b ss = 4 * (b + position_or_len (slot_touches v) ss) + position_or_len (lies_in v) (halves_at ss (position_or_len (slot_touches v) ss))

pub xor_of_one : (v b : ℕ) (ss : List (List (Option ℕ))) → count_by (slot_touches v) ss ≡ 1 → (xor_of v b ss ≡ at_place v b ss) × (slot_touches v (halves_at ss (position_or_len (slot_touches v) ss)) ≡ true)
xor_of_one v b [] h = absurd (omega (arith, h))
xor_of_one v b (s ∷ ss) h = go (xor_of_one v (suc b) ss) (slot_touches v s) refl where
  place : Bool → ℕ
  place t = cond (not t) (1 + position_or_len (slot_touches v) ss) 0

  go : (count_by (slot_touches v) ss ≡ 1 → (xor_of v (suc b) ss ≡ at_place v (suc b) ss) × (slot_touches v (halves_at ss (position_or_len (slot_touches v) ss)) ≡ true)) → (t : Bool) → slot_touches v s ≡ t
      → (xor_of v b (s ∷ ss) ≡ 4 * (b + place (slot_touches v s)) + position_or_len (lies_in v) (halves_at (s ∷ ss) (place (slot_touches v s)))) × (slot_touches v (halves_at (s ∷ ss) (place (slot_touches v s))) ≡ true)
  go ih true is =
      let e : cond (slot_touches v s) 1 0 + count_by (slot_touches v) ss ≡ 1 = sym (sum_by-cons (λ x. cond (slot_touches v x) 1 0) s ss) ∙ h in
      let o : cond {A = ℕ} (slot_touches v s) 1 0 ≡ 1 = ap (λ (t : Bool). cond {A = ℕ} t 1 0) is in
      let none : xor_of v (suc b) ss ≡ 0 = xor_of_none v (suc b) ss (omega arith) in
      let z : b + 0 ≡ b = omega arith in (
        ap (λ (t : Bool). bit_xor (cond {A = ℕ} t (4 * b + position_or_len (lies_in v) s) 0) (xor_of v (suc b) ss)) is ∙ (ap (bit_xor (4 * b + position_or_len (lies_in v) s)) none ∙ (xor_zero_r _ ∙ (ap (λ n. 4 * n + position_or_len (lies_in v) s) (sym z) ∙ ap (λ t. 4 * (b + place t) + position_or_len (lies_in v) (halves_at (s ∷ ss) (place t))) (sym is)))),
        ap (λ t. slot_touches v (halves_at (s ∷ ss) (place t))) is ∙ is,
      )
  go ih false is =
      let e : cond (slot_touches v s) 1 0 + count_by (slot_touches v) ss ≡ 1 = sym (sum_by-cons (λ x. cond (slot_touches v x) 1 0) s ss) ∙ h in
      let o : cond {A = ℕ} (slot_touches v s) 1 0 ≡ 0 = ap (λ (t : Bool). cond {A = ℕ} t 1 0) is in
      let more = ih (omega arith) in
      let p : ℕ = position_or_len (slot_touches v) ss in
      let z : suc b + p ≡ b + suc p = omega arith in
      let q : suc p ≡ 1 + p = omega arith in (
        ap (λ (t : Bool). bit_xor (cond {A = ℕ} t (4 * b + position_or_len (lies_in v) s) 0) (xor_of v (suc b) ss)) is ∙ (more.0 ∙ (ap (λ n. 4 * n + position_or_len (lies_in v) (halves_at ss p)) z ∙ (ap (λ n. 4 * (b + n) + position_or_len (lies_in v) (halves_at (s ∷ ss) n)) q ∙ ap (λ t. 4 * (b + place t) + position_or_len (lies_in v) (halves_at (s ∷ ss) (place t))) (sym is)))),
        ap (λ t. slot_touches v (halves_at (s ∷ ss) (place t))) is ∙ (ap (λ n. slot_touches v (halves_at (s ∷ ss) n)) (sym q) ∙ more.1),
      )

module _ {less more : List (List (Option ℕ))} {h : Half} (n : AreNext less more h) (a : AreApart more) where
  abbrev e : ℕ
  e = h.place / 4

  xors : (v : ℕ) → bit_xor (xor_of v 0 more) (share_of v e (halves_at less e)) ≡ bit_xor (xor_of v 0 less) (share_of v e (halves_at more e))
  xors v =
      let z : 0 + h.place / 4 ≡ h.place / 4 = omega arith in
      let f = xor_of-set v 0 less e (halves_at less e) (halves_at more e) (slice_get-get_or less e [] n.within) in
      ap (λ (slots : List (List (Option ℕ))). bit_xor (xor_of v 0 slots) (share_of v e (halves_at less e))) n.is ∙ (rw z at f)

  share_none : share_of h.vertex e (halves_at less e) ≡ 0
  share_none = cond-false _ _ _ (touches_less n a)

  share_place : share_of h.vertex e (halves_at more e) ≡ h.place
  share_place = cond-true _ _ _ (touches_more n) ∙ (ap (λ j. 4 * e + j) (a.once e _ _ h.vertex (touched_at h.vertex (halves_at more e) (touches_more n)) n.some) ∙ place_is h.place)

  share_same : (v : ℕ) → v ≢ h.vertex → share_of v e (halves_at less e) ≡ share_of v e (halves_at more e)
  share_same v ne = go (cases_Bool (slot_touches v (halves_at less e))) where
    go : (slot_touches v (halves_at less e) ≡ true) ⊎ (slot_touches v (halves_at less e) ≡ false) → share_of v e (halves_at less e) ≡ share_of v e (halves_at more e)
    go (inr none) = cond-false _ _ _ none ∙ sym (cond-false _ _ _ (sym (touches_other n v ne) ∙ none))
    go (inl some) =
        let some' : slot_touches v (halves_at more e) ≡ true = sym (touches_other n v ne) ∙ some in
        cond-true _ _ _ some ∙ (ap (λ j. 4 * e + j) (a.once e _ _ v (in_more n e _ v (touched_at v (halves_at less e) some)) (touched_at v (halves_at more e) some')) ∙ sym (cond-true _ _ _ some'))

  pub xor_more : xor_of h.vertex 0 more ≡ bit_xor (xor_of h.vertex 0 less) h.place
  xor_more = sym (xor_zero_r _) ∙ (ap (bit_xor (xor_of h.vertex 0 more)) (sym share_none) ∙ (xors h.vertex ∙ ap (bit_xor (xor_of h.vertex 0 less)) share_place))

  pub xor_less : xor_of h.vertex 0 less ≡ bit_xor (xor_of h.vertex 0 more) h.place
  xor_less = sym (xor_back _ h.place) ∙ ap (λ x. bit_xor x h.place) (sym xor_more)

  pub xor_other : (v : ℕ) → v ≢ h.vertex → xor_of v 0 more ≡ xor_of v 0 less
  xor_other v ne = xor_cancel _ _ (share_of v e (halves_at less e)) (xors v ∙ ap (bit_xor (xor_of v 0 less)) (sym (share_same v ne)))

-- what is kept when the word of one vertex changes
kept_at : (vertices : List Vertex) (old new : List (List (Option ℕ))) (u : ℕ) (y : Vertex) → AreKept vertices old → u < length vertices → length new ≡ length old → AreApart new
    → y.degree ≡ count_by (slot_touches u) new → y.places ≡ xor_of u 0 new
    → ((v : ℕ) → v ≢ u → count_by (slot_touches v) new ≡ count_by (slot_touches v) old) → ((v : ℕ) → v ≢ u → xor_of v 0 new ≡ xor_of v 0 old)
    → AreKept (set vertices u y) new
kept_at vertices old new u y k within same apart degree places counts xors = record {
  few = omega (arith, k.few, same);
  fits = subst (λ n. n < 4294967296) (sym (length-set vertices u y)) k.fits;
  apart = apart;
  degree = λ v x h. degree_at v x (subst (λ n. v < n) (length-set vertices u y) h) (cases_eq v u);
  places = λ v x h. places_at v x (subst (λ n. v < n) (length-set vertices u y) h) (cases_eq v u);
} where
  here : (v : ℕ) (x : Vertex) → v ≡ u → get_or (set vertices u y) v x ≡ y
  here v x is = ap (λ i. get_or (set vertices u y) i x) is ∙ get_or-set_same vertices u y x within

  degree_at : (v : ℕ) (x : Vertex) → v < length vertices → (v ≡ u) ⊎ (v ≢ u) → (get_or (set vertices u y) v x).degree ≡ count_by (slot_touches v) new
  degree_at v x h (inl is) = ap (λ (w : Vertex). w.degree) (here v x is) ∙ (degree ∙ ap (λ i. count_by (slot_touches i) new) (sym is))
  degree_at v x h (inr ne) = ap (λ (w : Vertex). w.degree) (get_or-set_other vertices u v y x ne) ∙ (k.degree v x h ∙ sym (counts v ne))

  places_at : (v : ℕ) (x : Vertex) → v < length vertices → (v ≡ u) ⊎ (v ≢ u) → (get_or (set vertices u y) v x).places ≡ xor_of v 0 new
  places_at v x h (inl is) = ap (λ (w : Vertex). w.places) (here v x is) ∙ (places ∙ ap (λ i. xor_of i 0 new) (sym is))
  places_at v x h (inr ne) = ap (λ (w : Vertex). w.places) (get_or-set_other vertices u v y x ne) ∙ (k.places v x h ∙ sym (xors v ne))

-- the word of a vertex, read where it stands
word_degree : (vertices : List Vertex) (slots : List (List (Option ℕ))) (u : ℕ) (x : Vertex) → AreKept vertices slots → u < length vertices → x ≡ get_or vertices u x → x.degree ≡ count_by (slot_touches u) slots
word_degree vertices slots u x k within is = ap (λ (w : Vertex). w.degree) is ∙ k.degree u x within

word_places : (vertices : List Vertex) (slots : List (List (Option ℕ))) (u : ℕ) (x : Vertex) → AreKept vertices slots → u < length vertices → x ≡ get_or vertices u x → x.places ≡ xor_of u 0 slots
word_places vertices slots u x k within is = ap (λ (w : Vertex). w.places) is ∙ k.places u x within

-- with one half-edge more, and one less
pub kept_more : (vertices : List Vertex) (less more : List (List (Option ℕ))) (h : Half) (x : Vertex) → AreKept vertices less → AreNext less more h → slot_touches h.vertex (halves_at less (h.place / 4)) ≡ false → h.vertex < length vertices → x ≡ get_or vertices h.vertex x
    → AreKept (set vertices h.vertex (with_place h.place x)) more
kept_more vertices less more h x k n free within is =
    let a : AreApart more = apart_more n k.apart free in
    kept_at vertices less more h.vertex (with_place h.place x) k within (long n) a
    (ap (λ d. d + 1) (word_degree vertices less h.vertex x k within is) ∙ sym (count_here n a))
    (ap (λ w. bit_xor w h.place) (word_places vertices less h.vertex x k within is) ∙ sym (xor_more n a))
    (count_other n a) (xor_other n a)

pub kept_less : (vertices : List Vertex) (less more : List (List (Option ℕ))) (h : Half) (x : Vertex) → AreKept vertices more → AreNext less more h → h.vertex < length vertices → x ≡ get_or vertices h.vertex x
    → AreKept (set vertices h.vertex (without_place h.place x)) less
kept_less vertices less more h x k n within is =
    kept_at vertices more less h.vertex (without_place h.place x) k within (sym (long n)) (apart_less n k.apart)
    (omega (arith, word_degree vertices more h.vertex x k within is, count_here n k.apart))
    (ap (λ w. bit_xor w h.place) (word_places vertices more h.vertex x k within is) ∙ sym (xor_less n k.apart))
    (λ v ne. sym (count_other n k.apart v ne)) (λ v ne. sym (xor_other n k.apart v ne))

-- a vertex with a half-edge has a degree
pub some_degree : (vertices : List Vertex) (less more : List (List (Option ℕ))) (h : Half) (x : Vertex) → AreKept vertices more → AreNext less more h → h.vertex < length vertices → x ≡ get_or vertices h.vertex x → 1 ≤ x.degree
some_degree vertices less more h x k n within is = omega (arith, word_degree vertices more h.vertex x k within is, count_here n k.apart)

-- no degree is greater than the number of edges
pub few_degree : (vertices : List Vertex) (slots : List (List (Option ℕ))) (u : ℕ) (x : Vertex) → AreKept vertices slots → u < length vertices → x ≡ get_or vertices u x → x.degree ≤ MAX_EDGES
few_degree vertices slots u x k within is = omega (arith, word_degree vertices slots u x k within is, count_by-le-length (slot_touches u) slots, k.few)

-- the place and the edge at degree one
pub place_one : (vertices : List Vertex) (slots : List (List (Option ℕ))) (u : ℕ) (x : Vertex) → AreKept vertices slots → u < length vertices → x ≡ get_or vertices u x → count_by (slot_touches u) slots ≡ 1
    → (x.places ≡ at_place u 0 slots) × (x.places / 4 ≡ position_or_len (slot_touches u) slots)
place_one vertices slots u x k within is one =
    let p : ℕ = position_or_len (slot_touches u) slots in
    let j : ℕ = position_or_len (lies_in u) (halves_at slots p) in
    let o = xor_of_one u 0 slots one in
    let few : j < 4 = k.apart.four p j u (touched_at u (halves_at slots p) o.1) in
    let all : x.places ≡ at_place u 0 slots = word_places vertices slots u x k within is ∙ o.0 in
    (all, omega (arith, all, few))

-- if nothing is linked yet
pub kept_none : (n m : ℕ) (vertices : List Vertex) → vertices ≡ replicate n (record { degree = 0; places = 0 }) → m ≤ MAX_EDGES → n < 4294967296 → AreKept vertices (replicate m [])
kept_none n m vertices are few fits = record {
  few = rw length-replicate few;
  fits = subst (λ k. k < 4294967296) (sym (ap length are ∙ length-replicate n (let z : Vertex = record { degree = 0; places = 0 } in z))) fits;
  apart = record {
    once = λ e i j v x y. absurd (bare_half m e i v x);
    four = λ e i v x. absurd (bare_half m e i v x);
  };
  degree = λ v x h. ap (λ (y : Vertex). y.degree) (zero_at v x h) ∙ sym (bare_count m v);
  places = λ v x h. ap (λ (y : Vertex). y.places) (zero_at v x h) ∙ sym (xor_of_none v 0 (replicate m []) (bare_count m v));
} where
  zero_at : (v : ℕ) (x : Vertex) → v < length vertices → get_or vertices v x ≡ record { degree = 0; places = 0 }
  zero_at v x h = ap (λ (xs : List Vertex). get_or xs v x) are ∙ get_or-replicate n v (record { degree = 0; places = 0 }) x (omega (arith, ap length are, length-replicate n (let z : Vertex = record { degree = 0; places = 0 } in z)))

-- the place and the edge of a half-edge that is alone in its vertex
pub lone_place : (l : Links) (vertices : List Vertex) (slots : List (List (Option ℕ))) (v : ℕ) (x : Vertex) → ◌≡◌ {A = Links} (record { vertices = length vertices; slots = slots }) l → AreKept vertices slots → v < l.vertices → x ≡ get_or vertices v x → is_free l v ≡ true → (x.places ≡ place_of l v) × (x.places / 4 ≡ sole_of l v)
lone_place l vertices slots v x is k h read free =
    let within : v < length vertices = subst (λ n. v < n) (sym (ap (λ (l : Links). l.vertices) is)) h in
    let one : count_by (slot_touches v) slots ≡ 1 = ap (λ (l : Links). count_by (slot_touches v) l.slots) is ∙ eqb-true _ _ free in
    let p = place_one vertices slots v x k within read one in
    let z : 0 + position_or_len (slot_touches v) slots ≡ position_or_len (slot_touches v) slots = omega arith in
    (p.0 ∙ (ap (λ e. 4 * e + position_or_len (lies_in v) (halves_at slots (position_or_len (slot_touches v) slots))) z ∙ ap (λ l. place_of l v) is), p.1 ∙ ap (λ l. sole_of l v) is)
