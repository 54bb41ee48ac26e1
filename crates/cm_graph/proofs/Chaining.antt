-- What is kept of the chains when one place is put into its chain, and when it is taken out.
use Rattle.std.proofs.Common.{◌≡◌, ◌≢◌, ◌⊎◌, ℕ, suc, ◌+◌, ◌-◌, ◌*◌, ◌/◌, ◌%◌, ◌<◌, ◌≤◌, Bool, true, false, cond, eqb, List, [], ◌∷◌, length, get_or, set, get_or-set_other, get_or-set_same, Option, Some, sym, refl, ap, ◌∙◌, subst, inl, inr, arith, replicate}
use Rattle.std.specs.List.{All, count_by, position_or_len}
use Rattle.std.proofs.lemmas.Bool.{cases_Bool, cases_eq, cond-true, cond-false, ne_eqb, eq-eqb, eqb-true}
use Rattle.std.proofs.lemmas.List.{length-replicate, get_or-replicate}
use Rattle.std.proofs.lemmas.List.Elements.{All-from_get_or}
use Rattle.std.proofs.Math.ListN.{length-set}
use Rattle.cm_graph_edges.specs.Graph.{Links, lies_in, slot_touches, place_of, sole_of, is_free}
use Rattle.cm_graph.specs.Next.{halves_at, half_at, AreNext, AreApart}
use Rattle.cm_graph.specs.Chained.{AreChained, chain_of, chain_from, chain_without, next_without, before_in, times, is_place}
use Rattle.cm_graph_edges.specs.declared.incidence.Half.{Half}
use Rattle.cm_graph.specs.declared.linked.Chain.{Chain}
use Rattle.cm_graph.proofs.Chains.{times-cons, one_same, chain_kept, chain_cut, before_is_there}
use Rattle.cm_graph.proofs.Places.{place_same_vertex, place_free, place_taken, place_here, place_other, place_half, place_within, count_at, position_of_one}
use Rattle.cm_graph.proofs.Positions.{long, apart_less, place_is, touches_at, touched_at, bare_half, bare_count, count_here, count_other}
use Rattle.cm_spec.specs.declared.limits.TheConstants.{MAX_EDGES}

-- what is kept when the chain of one vertex changes
chained_at : (chains : List Chain) (next next' : List ℕ) (old new : List (List (Option ℕ))) (v : ℕ) (y : Chain)
    → AreChained chains next old → v < length chains → length next' ≡ length next → length new ≡ length old
    → AreApart new
    → y.degree ≡ count_by (slot_touches v) new
    → ((p : ℕ) → times p (chain_from next' y) ≡ cond (is_place new v p) 1 0)
    → ((u : ℕ) (x : Chain) → u ≢ v → u < length chains → chain_from next' (get_or chains u x) ≡ chain_from next (get_or chains u x))
    → ((u : ℕ) → u ≢ v → count_by (slot_touches u) new ≡ count_by (slot_touches u) old)
    → ((u p : ℕ) → u ≢ v → is_place new u p ≡ is_place old u p)
    → AreChained (set chains v y) next' new
chained_at chains next next' old new v y a within same-next same-slots apart degree here kept counts places = record {
  few = omega (arith, a.few, same-slots);
  fits = subst (λ n. n < 4294967296) (sym (length-set chains v y)) a.fits;
  long = same-next ∙ (a.long ∙ ap (λ n. 4 * n) (sym same-slots));
  apart = apart;
  degree = λ u x h. degree_at u x (subst (λ n. u < n) (length-set chains v y) h) (cases_eq u v);
  places = λ u p x h. places_at u p x (subst (λ n. u < n) (length-set chains v y) h) (cases_eq u v);
} where
  same : (u : ℕ) (x : Chain) → u ≡ v → get_or (set chains v y) u x ≡ y
  same u x is = ap (λ i. get_or (set chains v y) i x) is ∙ get_or-set_same chains v y x within

  degree_at : (u : ℕ) (x : Chain) → u < length chains → (u ≡ v) ⊎ (u ≢ v) → (get_or (set chains v y) u x).degree ≡ count_by (slot_touches u) new
  degree_at u x h (inl is) = ap (λ (c : Chain). c.degree) (same u x is) ∙ (degree ∙ ap (λ i. count_by (slot_touches i) new) (sym is))
  degree_at u x h (inr ne) = ap (λ (c : Chain). c.degree) (get_or-set_other chains v u y x ne) ∙ (a.degree u x h ∙ sym (counts u ne))

  places_at : (u p : ℕ) (x : Chain) → u < length chains → (u ≡ v) ⊎ (u ≢ v) → times p (chain_from next' (get_or (set chains v y) u x)) ≡ cond (is_place new u p) 1 0
  places_at u p x h (inl is) = ap (λ (c : Chain). times p (chain_from next' c)) (same u x is) ∙ (here p ∙ ap (λ i. cond {A = ℕ} (is_place new i p) 1 0) (sym is))
  places_at u p x h (inr ne) = ap (λ (c : Chain). times p (chain_from next' c)) (get_or-set_other chains v u y x ne) ∙ (ap (times p) (kept u x ne h) ∙ (a.places u p x h ∙ ap (λ (b : Bool). cond {A = ℕ} b 1 0) (sym (places u p ne))))

-- the place is within `next`
pub place_fits : {h : Half} {less more : List (List (Option ℕ))} → AreNext less more h → h.place < 4 * length less
place_fits {h} n = omega (arith, n.within, place_is h.place)

-- with the place put in
pub chained_more : (h : Half) (less more : List (List (Option ℕ))) (chains : List Chain) (next : List ℕ) (x : Chain)
    → AreNext less more h → AreApart more → AreChained chains next less → h.vertex < length chains → x ≡ get_or chains h.vertex x
    → AreChained (set chains h.vertex (record { degree = x.degree + 1; first = h.place })) (set next h.place x.first) more
chained_more h less more chains next x n apart a within is =
    chained_at chains next next' less more v y a within (length-set next q x.first) (long n) apart
    (ap (λ d. d + 1) degree ∙ sym (count_here n apart))
    (λ p. omega (arith, new p, a.places v p x within, ap (λ (c : Chain). times p (chain_from next c)) is, place_here n p))
    (λ u w ne h. chain_kept next (get_or chains u w).first (get_or chains u w).degree q x.first (a.places u q w h ∙ cond-false _ _ _ (place_free n u)))
    (count_other n apart)
    (place_other n)
  where
    v : ℕ
    v = h.vertex

    q : ℕ
    q = h.place

    y : Chain
    y = record { degree = x.degree + 1; first = q }

    next' : List ℕ
    next' = set next q x.first

    degree : x.degree ≡ count_by (slot_touches v) less
    degree = ap (λ (c : Chain). c.degree) is ∙ a.degree v x within

    free : times q (chain_from next x) ≡ 0
    free = ap (λ (c : Chain). times q (chain_from next c)) is ∙ (a.places v q x within ∙ cond-false _ _ _ (place_free n v))

    to : get_or next' q 0 ≡ x.first
    to = get_or-set_same next q x.first 0 (subst (λ i. q < i) (sym a.long) (place_fits n))

    chain : chain_from next' y ≡ q ∷ chain_from next x
    chain = ap (chain_of next' q) (let e : x.degree + 1 ≡ suc x.degree = omega arith in e) ∙ ap (λ ps. q ∷ ps) (ap (λ i. chain_of next' i x.degree) to ∙ chain_kept next x.first x.degree q x.first free)

    new : (p : ℕ) → times p (chain_from next' y) ≡ cond (eqb q p) 1 0 + times p (chain_from next x)
    new p = ap (times p) chain ∙ times-cons p q (chain_from next x)

-- the places of a chain are within `next`, and each stands there once
module _ {chains : List Chain} {next : List ℕ} {slots : List (List (Option ℕ))} (a : AreChained chains next slots) (v : ℕ) (x : Chain) (within : v < length chains) (is : x ≡ get_or chains v x) where
  times_is : (p : ℕ) → times p (chain_from next x) ≡ cond (is_place slots v p) 1 0
  times_is p = ap (λ (c : Chain). times p (chain_from next c)) is ∙ a.places v p x within

  times_once : (p : ℕ) → times p (chain_from next x) ≤ 1
  times_once p = go (cases_Bool (is_place slots v p)) where
    go : (is_place slots v p ≡ true) ⊎ (is_place slots v p ≡ false) → times p (chain_from next x) ≤ 1
    go (inl one) = omega (arith, times_is p, ap (λ (b : Bool). cond {A = ℕ} b 1 0) one)
    go (inr none) = omega (arith, times_is p, ap (λ (b : Bool). cond {A = ℕ} b 1 0) none)

  there_is_place : (p : ℕ) → 1 ≤ times p (chain_from next x) → is_place slots v p ≡ true
  there_is_place p h = go (cases_Bool (is_place slots v p)) where
    go : (is_place slots v p ≡ true) ⊎ (is_place slots v p ≡ false) → is_place slots v p ≡ true
    go (inl one) = one
    go (inr none) = absurd (omega (arith, h, times_is p, ap (λ (b : Bool). cond {A = ℕ} b 1 0) none))

  chain_within : (p : ℕ) → 1 ≤ times p (chain_from next x) → p < length next
  chain_within p h = subst (λ n. p < n) (sym a.long) (place_within p v slots (there_is_place p h)).1

  pub chain_all_within : All (λ p. p < length next) (chain_from next x)
  chain_all_within = All-from_get_or (λ p. p < length next) (chain_from next x) 0 (λ i h. chain_within (get_or (chain_from next x) i 0) (count_at (λ p. eqb p (get_or (chain_from next x) i 0)) (chain_from next x) i 0 h (eq-eqb _ _ refl)))

  pub degree_is : x.degree ≡ count_by (slot_touches v) slots
  degree_is = ap (λ (c : Chain). c.degree) is ∙ a.degree v x within

  before_there : (q : ℕ) → 0 < x.degree → 1 ≤ times (before_in q (chain_from next x)) (chain_from next x)
  before_there q some =
      let e : suc (x.degree - 1) ≡ x.degree = omega (arith, some) in
      let b : 1 ≤ times (before_in q (chain_of next x.first (suc (x.degree - 1)))) (chain_of next x.first (suc (x.degree - 1))) = before_is_there q x.first (chain_of next (get_or next x.first 0) (x.degree - 1)) in
      subst (λ n. 1 ≤ times (before_in q (chain_of next x.first n)) (chain_of next x.first n)) e b

-- with a place taken out, if what is left of its chain is known
chained_less : (h : Half) (less more : List (List (Option ℕ))) (chains : List Chain) (next next' : List ℕ) (x : Chain) (first : ℕ)
    → AreNext less more h → AreChained chains next more → h.vertex < length chains → x ≡ get_or chains h.vertex x → length next' ≡ length next
    → ((p : ℕ) → times p (chain_of next' first (x.degree - 1)) + cond (eqb h.place p) 1 0 ≡ times p (chain_from next x))
    → ((u : ℕ) (w : Chain) → u ≢ h.vertex → u < length chains → chain_from next' (get_or chains u w) ≡ chain_from next (get_or chains u w))
    → AreChained (set chains h.vertex (record { degree = x.degree - 1; first = first })) next' less
chained_less h less more chains next next' x first n a within is same cut kept =
    chained_at chains next next' more less h.vertex (record { degree = x.degree - 1; first = first }) a within same (sym (long n)) (apart_less n a.apart)
    (omega (arith, degree_is a h.vertex x within is, count_here n a.apart))
    (λ p. omega (arith, cut p, times_is a h.vertex x within is p, place_here n p))
    kept
    (λ u ne. sym (count_other n a.apart u ne))
    (λ u p ne. sym (place_other n u p ne))

-- the chain of the place's vertex has it, so it is not empty
pub degree_is_suc : {h : Half} {less more : List (List (Option ℕ))} {chains : List Chain} {next : List ℕ} (x : Chain) → AreNext less more h → AreChained chains next more → h.vertex < length chains → x ≡ get_or chains h.vertex x → x.degree ≡ suc (x.degree - 1)
degree_is_suc {h} x n a within is = omega (arith, degree_is a h.vertex x within is, count_here n)

-- taken out if it is the first of its chain
chained_less_first : (h : Half) (less more : List (List (Option ℕ))) (chains : List Chain) (next : List ℕ) (x : Chain)
    → AreNext less more h → AreChained chains next more → h.vertex < length chains → x ≡ get_or chains h.vertex x → x.first ≡ h.place
    → AreChained (set chains h.vertex (record { degree = x.degree - 1; first = get_or next h.place 0 })) next less
chained_less_first h less more chains next x n a within is here =
    chained_less h less more chains next next x (get_or next q 0) n a within is refl (λ p. omega (arith, old p)) (λ u w ne h. refl)
  where
    q : ℕ
    q = h.place

    chain : chain_from next x ≡ q ∷ chain_of next (get_or next q 0) (x.degree - 1)
    chain = ap (chain_of next x.first) (degree_is_suc x n a within is) ∙ ap (λ i. chain_of next i (suc (x.degree - 1))) here

    old : (p : ℕ) → times p (chain_from next x) ≡ cond (eqb q p) 1 0 + times p (chain_of next (get_or next q 0) (x.degree - 1))
    old p = ap (times p) chain ∙ times-cons p q (chain_of next (get_or next q 0) (x.degree - 1))

-- taken out if another is before it
chained_less_later : (h : Half) (less more : List (List (Option ℕ))) (chains : List Chain) (next : List ℕ) (x : Chain)
    → AreNext less more h → AreChained chains next more → h.vertex < length chains → x ≡ get_or chains h.vertex x → x.first ≢ h.place
    → AreChained (set chains h.vertex (record { degree = x.degree - 1; first = x.first })) (set next (before_in h.place (chain_from next x)) (get_or next h.place 0)) less
chained_less_later h less more chains next x n a within is other =
    chained_less h less more chains next (set next at (get_or next q 0)) x x.first n a within is (length-set next at (get_or next q 0)) cut kept
  where
    v : ℕ
    v = h.vertex

    q : ℕ
    q = h.place

    at : ℕ
    at = before_in q (chain_from next x)

    m : ℕ
    m = x.degree - 1

    chain : chain_from next x ≡ chain_of next x.first (suc m)
    chain = ap (chain_of next x.first) (degree_is_suc x n a within is)

    same : (p : ℕ) → times p (chain_from next x) ≡ times p (chain_of next x.first (suc m))
    same p = ap (times p) chain

    there : 1 ≤ times q (chain_of next x.first (suc m))
    there = omega (arith, same q, times_is a v x within is q, ap (λ (b : Bool). cond {A = ℕ} b 1 0) (place_taken n v ∙ eq-eqb v v refl))

    cut : (p : ℕ) → times p (chain_of (set next at (get_or next q 0)) x.first m) + cond (eqb q p) 1 0 ≡ times p (chain_from next x)
    cut p =
        let c = chain_cut next x.first m q (λ p. omega (arith, same p, times_once a v x within is p)) (λ p h. chain_within a v x within is p (omega (arith, h, same p))) other there p in
        ap (λ ps. times p (chain_of (set next (before_in q ps) (get_or next q 0)) x.first m) + cond (eqb q p) 1 0) chain ∙ (c ∙ sym (same p))

    kept : (u : ℕ) (w : Chain) → u ≢ v → u < length chains → chain_from (set next at (get_or next q 0)) (get_or chains u w) ≡ chain_from next (get_or chains u w)
    kept u w ne h = go (cases_Bool (is_place more u at)) where
      go : (is_place more u at ≡ true) ⊎ (is_place more u at ≡ false) → chain_from (set next at (get_or next q 0)) (get_or chains u w) ≡ chain_from next (get_or chains u w)
      go (inl one) = absurd (ne (place_same_vertex more u v at one (there_is_place a v x within is at (before_there a v x within is q (omega (arith, degree_is_suc x n a within is))))))
      go (inr none) = chain_kept next (get_or chains u w).first (get_or chains u w).degree at (get_or next q 0) (a.places u at w h ∙ cond-false _ _ _ none)

pub chained_cut : (h : Half) (less more : List (List (Option ℕ))) (chains : List Chain) (next : List ℕ) (x : Chain)
    → AreNext less more h → AreChained chains next more → h.vertex < length chains → x ≡ get_or chains h.vertex x
    → AreChained (set chains h.vertex (chain_without next x h.place)) (next_without next x h.place) less
chained_cut h less more chains next x n a within is = go (cases_eq x.first q) where
  q : ℕ
  q = h.place

  with_first : ℕ → Chain
  with_first first = record { degree = x.degree - 1; first = first }

  cut_is : (first : ℕ) (left : List ℕ) → cond (eqb x.first q) (get_or next q 0) x.first ≡ first → next_without next x q ≡ left → AreChained (set chains h.vertex (with_first first)) left less → AreChained (set chains h.vertex (chain_without next x q)) (next_without next x q) less
  cut_is first left fi li c = subst (λ l. AreChained (set chains h.vertex (chain_without next x q)) l less) (sym li) (subst (λ f. AreChained (set chains h.vertex (with_first f)) left less) (sym fi) c)

  go : (x.first ≡ q) ⊎ (x.first ≢ q) → AreChained (set chains h.vertex (chain_without next x q)) (next_without next x q) less
  go (inl same) = cut_is (get_or next q 0) next (cond-true _ _ _ (eq-eqb _ _ same)) (cond-true _ _ _ (eq-eqb _ _ same)) (chained_less_first h less more chains next x n a within is same)
  go (inr other) = cut_is x.first (set next (before_in q (chain_from next x)) (get_or next q 0)) (cond-false _ _ _ (ne_eqb _ _ other)) (cond-false _ _ _ (ne_eqb _ _ other)) (chained_less_later h less more chains next x n a within is other)

-- the one half-edge in a vertex
pub place_one_chained : (v : ℕ) (chains : List Chain) (next : List ℕ) (slots : List (List (Option ℕ))) (x : Chain) → AreChained chains next slots → v < length chains → x ≡ get_or chains v x → count_by (slot_touches v) slots ≡ 1
    → (x.first ≡ 4 * position_or_len (slot_touches v) slots + position_or_len (lies_in v) (halves_at slots (position_or_len (slot_touches v) slots))) × (x.first / 4 ≡ position_or_len (slot_touches v) slots)
place_one_chained v chains next slots x a within is one =
    (sym (ap (λ e. 4 * e + position_or_len (lies_in v) (halves_at slots e)) edge ∙ (ap (λ j. 4 * (x.first / 4) + j) position ∙ place_is x.first)), sym edge) where
      chain : chain_from next x ≡ x.first ∷ []
      chain = ap (chain_of next x.first) (degree_is a v x within is ∙ one)

      place : is_place slots v x.first ≡ true
      place = there_is_place a v x within is x.first (omega (arith, ap (times x.first) chain, times-cons x.first x.first [], one_same x.first x.first refl))

      there : half_at slots (x.first / 4) (x.first % 4) ≡ Some v
      there = place_half slots v x.first place

      touched : slot_touches v (halves_at slots (x.first / 4)) ≡ true
      touched = touches_at v (x.first % 4) (halves_at slots (x.first / 4)) there

      edge : position_or_len (slot_touches v) slots ≡ x.first / 4
      edge = position_of_one (slot_touches v) slots (x.first / 4) [] one (place_within x.first v slots place).0 touched

      position : position_or_len (lies_in v) (halves_at slots (x.first / 4)) ≡ x.first % 4
      position = a.apart.once (x.first / 4) _ _ v (touched_at v (halves_at slots (x.first / 4)) touched) there

pub lone_first : (l : Links) (chains : List Chain) (next : List ℕ) (slots : List (List (Option ℕ))) (v : ℕ) (x : Chain) → ◌≡◌ {A = Links} (record { vertices = length chains; slots = slots }) l → AreChained chains next slots → v < l.vertices → x ≡ get_or chains v x → is_free l v ≡ true → (x.first ≡ place_of l v) × (x.first / 4 ≡ sole_of l v)
lone_first l chains next slots v x is a h read free =
    let within : v < length chains = subst (λ n. v < n) (sym (ap (λ (l : Links). l.vertices) is)) h in
    let one : count_by (slot_touches v) slots ≡ 1 = ap (λ (l : Links). count_by (slot_touches v) l.slots) is ∙ eqb-true _ _ free in
    let p = place_one_chained v chains next slots x a within read one in
    (p.0 ∙ ap (λ l. place_of l v) is, p.1 ∙ ap (λ l. sole_of l v) is)

-- if nothing is linked yet
pub chained_none : (n m : ℕ) (chains : List Chain) (next : List ℕ) → chains ≡ replicate n (record { degree = 0; first = 0 }) → length next ≡ 4 * m → m ≤ MAX_EDGES → n < 4294967296 → AreChained chains next (replicate m [])
chained_none n m chains next are long few fits = record {
  few = rw length-replicate few;
  fits = subst (λ k. k < 4294967296) (sym (ap length are ∙ length-replicate n (let z : Chain = record { degree = 0; first = 0 } in z))) fits;
  long = rw length-replicate long;
  apart = record {
    once = λ e i j v x y. absurd (bare_half m e i v x);
    four = λ e i v x. absurd (bare_half m e i v x);
  };
  degree = λ v x h. ap (λ (y : Chain). y.degree) (zero_at v x h) ∙ sym (bare_count m v);
  places = λ v q x h. ap (λ (y : Chain). times q (chain_from next y)) (zero_at v x h) ∙ sym (cond-false _ _ _ (no_place v q (cases_Bool (is_place (replicate m []) v q))));
} where
  no_place : (v q : ℕ) → (is_place (replicate m []) v q ≡ true) ⊎ (is_place (replicate m []) v q ≡ false) → is_place (replicate m []) v q ≡ false
  no_place v q (inr none) = none
  no_place v q (inl some) = absurd (bare_half m (q / 4) (q % 4) v (place_half (replicate m []) v q some))

  zero_at : (v : ℕ) (x : Chain) → v < length chains → get_or chains v x ≡ record { degree = 0; first = 0 }
  zero_at v x h = ap (λ (xs : List Chain). get_or xs v x) are ∙ get_or-replicate n v (record { degree = 0; first = 0 }) x (omega (arith, ap length are, length-replicate n (let z : Chain = record { degree = 0; first = 0 } in z)))
