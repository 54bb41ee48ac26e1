-- Where a vertex stands among the half-edges of an edge, and what one half-edge more changes there.
use Rattle.std.proofs.Common.{◌≡◌, ◌≢◌, ◌⊎◌, ◌+◌, ◌*◌, ◌/◌, ◌%◌, ◌<◌, ◌≤◌, ℕ, suc, true, false, cond, not, ◌||◌, List, [], ◌∷◌, length, get_or, Option, Some, None, sym, refl, ap, ◌∙◌, subst, inl, inr, arith, get_or-set_other, Bool, replicate}
use Rattle.std.specs.List.{position_or_len, count_by}
use Rattle.std.proofs.lemmas.Bool.{cases_Bool, cases_eq, cases_lt, eq-eqb, eqb-true, false≢true}
use Rattle.std.proofs.lemmas.List.{length-replicate, get_or-replicate, get_or_past}
use Rattle.std.proofs.lemmas.Option.{none-some, same_Some}
use Rattle.std.proofs.lemmas.List.Folds.{list_any_at}
use Rattle.std.proofs.lemmas.Nat.{mod_below}
use Rattle.std.proofs.Math.ListN.{length-set}
use Rattle.std.proofs.Math.Nat.{div-add-mod', mul-zero}
use Rattle.std.proofs.lemmas.List.Sums.{count_by-le-length, sum_by-set}
use Rattle.std.proofs.lemmas.List.Folds.{sum_by-replicate}
use Rattle.cm_graph_edges.specs.Graph.{lies_in, slot_touches}
use Rattle.cm_graph.specs.Next.{halves_at, half_at, AreNext, AreApart}
use Rattle.cm_graph_edges.specs.declared.incidence.Half.{Half}

pub lies_is : (v : ℕ) (x : Option ℕ) → lies_in v x ≡ true → x ≡ Some v
lies_is v None h = absurd (false≢true h)
lies_is v (Some u) h = ap Some (eqb-true u v h)

-- a vertex that stands at a position is touched
pub touches_at : (v j : ℕ) (slot : List (Option ℕ)) → get_or slot j None ≡ Some v → slot_touches v slot ≡ true
touches_at v j slot h = go (cases_lt j (length slot)) where
  go : (j < length slot) ⊎ (length slot ≤ j) → slot_touches v slot ≡ true
  go (inl within) = list_any_at (lies_in v) slot j None within (ap (lies_in v) h ∙ eq-eqb v v refl)
  go (inr past) = absurd (none-some v (sym (get_or_past slot j None past) ∙ h))

-- one that is touched stands at the first position that has it
pub touched_at : (v : ℕ) (slot : List (Option ℕ)) → slot_touches v slot ≡ true → get_or slot (position_or_len (lies_in v) slot) None ≡ Some v
touched_at v [] h = absurd (false≢true h)
touched_at v (x ∷ xs) h = go (cases_Bool (lies_in v x)) (touched_at v xs) where
  go : (lies_in v x ≡ true) ⊎ (lies_in v x ≡ false) → (slot_touches v xs ≡ true → get_or xs (position_or_len (lies_in v) xs) None ≡ Some v) → get_or (x ∷ xs) (cond (not (lies_in v x)) (1 + position_or_len (lies_in v) xs) 0) None ≡ Some v
  go (inl here) ih = ap (λ b. get_or (x ∷ xs) (cond (not b) (1 + position_or_len (lies_in v) xs) 0) None) here ∙ lies_is v x here
  go (inr later) ih = ap (λ b. get_or (x ∷ xs) (cond (not b) (1 + position_or_len (lies_in v) xs) 0) None) later ∙ (ap (λ n. get_or (x ∷ xs) n None) (let e : 1 + position_or_len (lies_in v) xs ≡ suc (position_or_len (lies_in v) xs) = omega arith in e) ∙ ih (ap (λ b. b || slot_touches v xs) (sym later) ∙ h))

-- if the one slot has each position of v that the other has, and the other way round, both touch v or none does
pub same_touch : (v : ℕ) (a b : List (Option ℕ)) → ((i : ℕ) → get_or a i None ≡ Some v → get_or b i None ≡ Some v) → ((i : ℕ) → get_or b i None ≡ Some v → get_or a i None ≡ Some v) → slot_touches v a ≡ slot_touches v b
same_touch v a b to from = go (cases_Bool (slot_touches v a)) (cases_Bool (slot_touches v b)) where
  go : (slot_touches v a ≡ true) ⊎ (slot_touches v a ≡ false) → (slot_touches v b ≡ true) ⊎ (slot_touches v b ≡ false) → slot_touches v a ≡ slot_touches v b
  go (inl x) y = x ∙ sym (touches_at v _ b (to _ (touched_at v a x)))
  go (inr x) (inl y) = absurd (false≢true (sym x ∙ touches_at v _ a (from _ (touched_at v b y))))
  go (inr x) (inr y) = x ∙ sym y

-- the place of a half-edge, by its edge and its position
pub place_is : (q : ℕ) → 4 * (q / 4) + q % 4 ≡ q
place_is q = omega (arith, div-add-mod' q 4)

pub place_edge : (e j : ℕ) → j < 4 → (4 * e + j) / 4 ≡ e
place_edge e j h = omega (arith, h)

pub place_position : (e j : ℕ) → j < 4 → (4 * e + j) % 4 ≡ j
place_position e j h = omega (arith, h)

module _ {less more : List (List (Option ℕ))} {h : Half} (n : AreNext less more h) where
  pub long : length more ≡ length less
  long = ap length n.is ∙ length-set less (h.place / 4) (halves_at more (h.place / 4))

  -- the other edges are the same
  pub other_edges : (e : ℕ) → e ≢ h.place / 4 → halves_at more e ≡ halves_at less e
  other_edges e ne = ap (λ (slots : List (List (Option ℕ))). halves_at slots e) n.is ∙ get_or-set_other less (h.place / 4) e (halves_at more (h.place / 4)) [] ne

  -- each half-edge of the smaller is one of the greater
  pub in_more : (e i v : ℕ) → half_at less e i ≡ Some v → half_at more e i ≡ Some v
  in_more e i v is = go (cases_eq e (h.place / 4)) (cases_eq i (h.place % 4)) where
    go : (e ≡ h.place / 4) ⊎ (e ≢ h.place / 4) → (i ≡ h.place % 4) ⊎ (i ≢ h.place % 4) → half_at more e i ≡ Some v
    go (inr other) p = ap (λ slot. get_or slot i None) (other_edges e other) ∙ is
    go (inl same) (inl here) = absurd (none-some v (sym n.none ∙ (ap (half_at less (h.place / 4)) (sym here) ∙ (ap (λ k. half_at less k i) (sym same) ∙ is))))
    go (inl same) (inr beside) = ap (λ k. half_at more k i) same ∙ (sym (n.others i beside) ∙ (ap (λ k. half_at less k i) (sym same) ∙ is))

  -- each half-edge of the greater is one of the smaller, or the one more
  pub in_less : (e i v : ℕ) → half_at more e i ≡ Some v → ((e ≡ h.place / 4) × (i ≡ h.place % 4) × (v ≡ h.vertex)) ⊎ (half_at less e i ≡ Some v)
  in_less e i v is = go (cases_eq e (h.place / 4)) (cases_eq i (h.place % 4)) where
    go : (e ≡ h.place / 4) ⊎ (e ≢ h.place / 4) → (i ≡ h.place % 4) ⊎ (i ≢ h.place % 4) → ((e ≡ h.place / 4) × (i ≡ h.place % 4) × (v ≡ h.vertex)) ⊎ (half_at less e i ≡ Some v)
    go (inr other) p = inr (ap (λ slot. get_or slot i None) (sym (other_edges e other)) ∙ is)
    go (inl same) (inl here) = inl (same, here, same_Some _ _ (sym is ∙ (ap (λ k. half_at more k i) same ∙ (ap (half_at more (h.place / 4)) here ∙ n.some))))
    go (inl same) (inr beside) = inr (ap (λ k. half_at less k i) same ∙ (n.others i beside ∙ (ap (λ k. half_at more k i) (sym same) ∙ is)))

  pub apart_less : AreApart more → AreApart less
  apart_less a = record {
    once = λ e i j v x y. a.once e i j v (in_more e i v x) (in_more e j v y);
    four = λ e i v x. a.four e i v (in_more e i v x);
  }

  pub apart_more : AreApart less → slot_touches h.vertex (halves_at less (h.place / 4)) ≡ false → AreApart more
  apart_more a free = record {
    once = λ e i j v x y. once e i j v (in_less e i v x) (in_less e j v y);
    four = λ e i v x. four e i v (in_less e i v x);
  } where
    Known : ℕ → ℕ → ℕ → Type 0
    Known e i v = ((e ≡ h.place / 4) × (i ≡ h.place % 4) × (v ≡ h.vertex)) ⊎ (half_at less e i ≡ Some v)

    new : (e i v : ℕ) → e ≡ h.place / 4 → v ≡ h.vertex → half_at less e i ≡ Some v → ⊥
    new e i v same is there = false≢true (sym free ∙ touches_at h.vertex i (halves_at less (h.place / 4)) (ap (λ k. half_at less k i) (sym same) ∙ (there ∙ ap Some is)))

    once : (e i j v : ℕ) → Known e i v → Known e j v → i ≡ j
    once e i j v (inl x) (inl y) = x.1 ∙ sym y.1
    once e i j v (inl x) (inr y) = absurd (new e j v x.0 x.2 y)
    once e i j v (inr x) (inl y) = absurd (new e i v y.0 y.2 x)
    once e i j v (inr x) (inr y) = a.once e i j v x y

    four : (e i v : ℕ) → Known e i v → i < 4
    four e i v (inl x) = subst (λ k. k < 4) (sym x.1) (mod_below h.place 4 (omega arith))
    four e i v (inr x) = a.four e i v x

  -- what is seen of the vertex of the half-edge, and of the other ones
  module _ (a : AreApart more) where
    pub touches_less : slot_touches h.vertex (halves_at less (h.place / 4)) ≡ false
    touches_less = go (cases_Bool (slot_touches h.vertex (halves_at less (h.place / 4)))) where
      go : (slot_touches h.vertex (halves_at less (h.place / 4)) ≡ true) ⊎ (slot_touches h.vertex (halves_at less (h.place / 4)) ≡ false) → slot_touches h.vertex (halves_at less (h.place / 4)) ≡ false
      go (inr none) = none
      go (inl some) =
          let there : half_at less (h.place / 4) (position_or_len (lies_in h.vertex) (halves_at less (h.place / 4))) ≡ Some h.vertex = touched_at h.vertex (halves_at less (h.place / 4)) some in
          let same : position_or_len (lies_in h.vertex) (halves_at less (h.place / 4)) ≡ h.place % 4 = a.once (h.place / 4) _ _ h.vertex (in_more (h.place / 4) _ h.vertex there) n.some in
          absurd (none-some h.vertex (sym n.none ∙ (ap (half_at less (h.place / 4)) (sym same) ∙ there)))

  pub touches_more : slot_touches h.vertex (halves_at more (h.place / 4)) ≡ true
  touches_more = touches_at h.vertex (h.place % 4) (halves_at more (h.place / 4)) n.some

  pub back : (v : ℕ) → v ≢ h.vertex → (i : ℕ) → half_at more (h.place / 4) i ≡ Some v → half_at less (h.place / 4) i ≡ Some v
  back v ne i is = go (in_less (h.place / 4) i v is) where
    go : ((h.place / 4 ≡ h.place / 4) × (i ≡ h.place % 4) × (v ≡ h.vertex)) ⊎ (half_at less (h.place / 4) i ≡ Some v) → half_at less (h.place / 4) i ≡ Some v
    go (inl x) = absurd (ne x.2)
    go (inr x) = x

  pub touches_other : (v : ℕ) → v ≢ h.vertex → slot_touches v (halves_at less (h.place / 4)) ≡ slot_touches v (halves_at more (h.place / 4))
  touches_other v ne = same_touch v _ _ (λ i. in_more (h.place / 4) i v) (back v ne)

-- the degrees
module _ {less more : List (List (Option ℕ))} {h : Half} (n : AreNext less more h) where
  counts : (v : ℕ) → count_by (slot_touches v) more + cond (slot_touches v (halves_at less (h.place / 4))) 1 0 ≡ count_by (slot_touches v) less + cond (slot_touches v (halves_at more (h.place / 4))) 1 0
  counts v = ap (λ (slots : List (List (Option ℕ))). count_by (slot_touches v) slots + cond (slot_touches v (halves_at less (h.place / 4))) 1 0) n.is ∙ sum_by-set (λ x. cond (slot_touches v x) 1 0) less (h.place / 4) (halves_at more (h.place / 4)) [] n.within

  pub count_new : slot_touches h.vertex (halves_at less (h.place / 4)) ≡ false → count_by (slot_touches h.vertex) more ≡ count_by (slot_touches h.vertex) less + 1
  count_new free = omega (arith, counts h.vertex, ap (λ (b : Bool). cond {A = ℕ} b 1 0) free, ap (λ (b : Bool). cond {A = ℕ} b 1 0) (touches_more n))

  -- there are fewer half-edges in a vertex than edges
  pub count_below : slot_touches h.vertex (halves_at less (h.place / 4)) ≡ false → count_by (slot_touches h.vertex) less < length less
  count_below free = omega (arith, count_new free, count_by-le-length (slot_touches h.vertex) more, long n)

module _ {less more : List (List (Option ℕ))} {h : Half} (n : AreNext less more h) (a : AreApart more) where
  pub count_here : count_by (slot_touches h.vertex) more ≡ count_by (slot_touches h.vertex) less + 1
  count_here = count_new n (touches_less n a)

  pub count_other : (v : ℕ) → v ≢ h.vertex → count_by (slot_touches v) more ≡ count_by (slot_touches v) less
  count_other v ne = omega (arith, counts n v, ap (λ (b : Bool). cond {A = ℕ} b 1 0) (touches_other n v ne))

-- if nothing is linked
pub bare_half : (m e i v : ℕ) → half_at (replicate m []) e i ≡ Some v → ⊥
bare_half m e i v is = go (cases_lt e m) where
  go : (e < m) ⊎ (m ≤ e) → ⊥
  go (inl within) = none-some v (ap (λ slot. get_or slot i None) (sym (get_or-replicate m e [] [] within)) ∙ is)
  go (inr past) = none-some v (ap (λ slot. get_or slot i None) (sym (get_or_past (replicate m []) e [] (omega (arith, past, length-replicate m (let z : List (Option ℕ) = [] in z))))) ∙ is)

pub bare_count : (m v : ℕ) → count_by (slot_touches v) (replicate m []) ≡ 0
bare_count m v = sum_by-replicate (λ (x : List (Option ℕ)). cond {A = ℕ} (slot_touches v x) 1 0) m [] ∙ mul-zero m
