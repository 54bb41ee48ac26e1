-- What two rising lists lack of each other, by their first items.
use Rattle.std.proofs.Common.{◌≡◌, ◌⊎◌, ℕ, zero, suc, ◌+◌, ◌<◌, ◌≤◌, Bool, true, false, cond, not, ◌||◌, eqb, min, List, [], ◌∷◌, ◌++◌, map, length, drop, drop-cons, get_or, sym, refl, ap, ◌∙◌, subst, inl, inr, arith, None, Some}
use Rattle.std.specs.List.{filter, list_any}
use Rattle.std.proofs.lemmas.Bool.{cases_lt}
use Rattle.std.proofs.lemmas.List.{drop_all, get_or-map, length-map}
use Rattle.cm_judge_core.specs.LeastLaws.{least_is}
use Rattle.cm_judge_verdict.specs.Rising.{RisesBy}
use Rattle.cm_judge_verdict.specs.Verdicts.{lacking, least, lines_apart, lines_lacking, lines_other, same_edge, same_pair}
use Rattle.cm_judge_verdict.specs.LackingLaws.{IsEquality, any_in, edge_equality, in_any, number_equality, pair_equality}
use Rattle.cm_judge_verdict.specs.MemberLaws.{Comes, In, In-append_cases, In-append_left, In-append_right, In-filter, In-filter_back, In-map, In-map_back, low_of}
use Rattle.cm_judge_verdict.specs.PlaceLaws.{edge_or}
use Rattle.cm_witness_gather.specs.declared.certificate.CoreEdge.{CoreEdge}
use Rattle.cm_witness_gather.specs.declared.certificate.Pair.{Pair}

-- tests that agree on a list keep the same
pub keeps_same : {X : Type 0} (p q : X → Bool) (xs : List X) → ((x : X) → In xs x → p x ≡ q x) → filter p xs ≡ filter q xs
keeps_same p q [] h = refl
keeps_same p q (x ∷ xs) h =
    let rest : filter p xs ≡ filter q xs = keeps_same p q xs (λ y m. h y (inr m)) in
    ap (λ (b : Bool). cond b (x ∷ filter p xs) (filter p xs)) (h x (inl refl)) ∙ ap (λ ys. cond (q x) (x ∷ ys) ys) rest

pub not_in : {X : Type 0} (same : X → X → Bool) → IsEquality same → (x : X) (ys : List X) → (In ys x → ⊥) → list_any (same x) ys ≡ false
not_in same eq x ys h = go (list_any (same x) ys) refl where
  go : (b : Bool) → list_any (same x) ys ≡ b → list_any (same x) ys ≡ false
  go true is = absurd (h (any_in same eq ys x is))
  go false is = is

-- one more of the others makes no difference if it is none of the items
pub lacking_skips : {X : Type 0} (same : X → X → Bool) → IsEquality same → (y : X) (others items : List X) → (In items y → ⊥) → lacking same (y ∷ others) items ≡ lacking same others items
lacking_skips {X} same eq y others items none = keeps_same _ _ items (λ x m. ap (λ (b : Bool). not (b || list_any (same x) others)) (differs x (same x y) refl (λ e. none (subst (In items) e m))))
  where
    differs : (x : X) (b : Bool) → same x y ≡ b → (x ≡ y → ⊥) → same x y ≡ false
    differs x true is h = absurd (h (eq.to x y is))
    differs x false is h = is

-- an item that is one of the others is not lacking, and one that is none of them is
pub lacking_found : {X : Type 0} (same : X → X → Bool) → IsEquality same → (others : List X) (x : X) (items : List X) → In others x → lacking same others (x ∷ items) ≡ lacking same others items
lacking_found same eq others x items m =
    let there : list_any (same x) others ≡ true = in_any same eq others x m in
    rw there refl

pub In-lacking : {X : Type 0} (same : X → X → Bool) → IsEquality same → (others items : List X) (x : X) → In items x → (In others x → ⊥) → In (lacking same others items) x
In-lacking same eq others items x m none = In-filter _ items x m (ap not (not_in same eq x others none))

pub In-lacking_back : {X : Type 0} (same : X → X → Bool) (others items : List X) (x : X) → In (lacking same others items) x → In items x
In-lacking_back same others items x m = (In-filter_back _ items x m).0

-- numbers that rise: an earlier one is none of them
not_later : {X : Type 0} (f : X → ℕ) (low : ℕ) (xs : List X) (y : X) → RisesBy f low xs → f y < low → In xs y → ⊥
not_later f low xs y r h m = let g : low ≤ f y = low_of f low xs y r m in omega arith

one_more : (n : ℕ) → suc n ≡ n + 1
one_more n = omega arith

-- what is left of a rising list from a place on
pub drop_rises : {X : Type 0} (f : X → ℕ) (low : ℕ) (xs : List X) (k : ℕ) (d : X) → RisesBy f low xs → k < length xs → RisesBy f (suc (f (get_or xs k d))) (drop (suc k) xs)
drop_rises f low [] k d r h = absurd (omega arith)
drop_rises f low (x ∷ xs) zero d r h = r.1
drop_rises f low (x ∷ xs) (suc k) d r h = drop_rises f (suc (f x)) xs k d r.1 (omega arith)

-- the line of an edge is not among those of later ones
not_line : (low line : ℕ) (es : List CoreEdge) → RisesBy (λ e. e.line) low es → line < low → In (map (λ e. e.line) es) line → ⊥
not_line low line es r h m =
    let c : Comes (λ (e : CoreEdge). e.line) es line = In-map_back (λ (e : CoreEdge). e.line) es line m in
    let g : low ≤ c.from.line = low_of (λ (e : CoreEdge). e.line) low es c.from r c.member in
    let is : c.from.line ≡ line = c.is in
    omega arith

-- the first edge of the report is below that of the core
skip_edge : (e c : CoreEdge) (es cs : List CoreEdge) → RisesBy (λ e. e.line) (suc c.line) cs → e.line < c.line → lines_lacking (e ∷ es) (c ∷ cs) ≡ lines_lacking es (c ∷ cs)
skip_edge e c es cs r h = lacking_skips eqb number_equality e.line (map (λ (e : CoreEdge). e.line) es) (map (λ (e : CoreEdge). e.line) (c ∷ cs)) (not_line c.line e.line (c ∷ cs) (omega arith, r) h)

-- it is the same
match_edge : (e c : CoreEdge) (es cs : List CoreEdge) → RisesBy (λ e. e.line) (suc c.line) cs → e.line ≡ c.line → lines_lacking (e ∷ es) (c ∷ cs) ≡ lines_lacking es cs
match_edge e c es cs r same =
    lacking_found eqb number_equality (map (λ (e : CoreEdge). e.line) (e ∷ es)) c.line (map (λ (e : CoreEdge). e.line) cs) (inl same)
    ∙ lacking_skips eqb number_equality e.line (map (λ (e : CoreEdge). e.line) es) (map (λ (e : CoreEdge). e.line) cs) (not_line (suc c.line) e.line cs r (omega arith))

-- it is above, or there is none
miss_edge : (c : CoreEdge) (es cs : List CoreEdge) → RisesBy (λ e. e.line) (suc c.line) cs → RisesBy (λ e. e.line) (suc c.line) es → least (lines_lacking es (c ∷ cs)) ≡ Some c.line
miss_edge c es cs r s =
    let lines : List ℕ = map (λ (e : CoreEdge). e.line) (c ∷ cs) in
    least_is (lines_lacking es (c ∷ cs)) c.line
    (In-lacking eqb number_equality (map (λ (e : CoreEdge). e.line) es) lines c.line (inl refl) (not_line (suc c.line) c.line es s (omega arith)))
    (λ x m.
    let d : Comes (λ (e : CoreEdge). e.line) (c ∷ cs) x = In-map_back (λ (e : CoreEdge). e.line) (c ∷ cs) x (In-lacking_back eqb (map (λ (e : CoreEdge). e.line) es) lines x m) in
    let g : c.line ≤ d.from.line = low_of (λ (e : CoreEdge). e.line) c.line (c ∷ cs) d.from (omega arith, r) d.member in
    let is : d.from.line ≡ x = d.is in
    omega arith)

-- the same at places of the lists
pub skip_at : (edges core : List CoreEdge) (i j : ℕ) (d : CoreEdge) → RisesBy (λ e. e.line) 0 core → i < length edges → j < length core → (get_or edges i d).line < (get_or core j d).line → lines_lacking (drop i edges) (drop j core) ≡ lines_lacking (drop (i + 1) edges) (drop j core)
skip_at edges core i j d r h g less =
    let here : drop i edges ≡ get_or edges i d ∷ drop (i + 1) edges = drop-cons edges i d h ∙ ap (λ n. get_or edges i d ∷ drop n edges) (one_more i) in
    let there : drop j core ≡ get_or core j d ∷ drop (suc j) core = drop-cons core j d g in
    ap (λ (xs : List CoreEdge). lines_lacking xs (drop j core)) here
    ∙ (ap (λ (xs : List CoreEdge). lines_lacking (get_or edges i d ∷ drop (i + 1) edges) xs) there
    ∙ (skip_edge (get_or edges i d) (get_or core j d) (drop (i + 1) edges) (drop (suc j) core) (drop_rises (λ (e : CoreEdge). e.line) 0 core j d r g) less
    ∙ ap (λ (xs : List CoreEdge). lines_lacking (drop (i + 1) edges) xs) (sym there)))

pub match_at : (edges core : List CoreEdge) (i j : ℕ) (d : CoreEdge) → RisesBy (λ e. e.line) 0 core → i < length edges → j < length core → (get_or edges i d).line ≡ (get_or core j d).line → lines_lacking (drop i edges) (drop j core) ≡ lines_lacking (drop (i + 1) edges) (drop (j + 1) core)
match_at edges core i j d r h g same =
    let here : drop i edges ≡ get_or edges i d ∷ drop (i + 1) edges = drop-cons edges i d h ∙ ap (λ n. get_or edges i d ∷ drop n edges) (one_more i) in
    let there : drop j core ≡ get_or core j d ∷ drop (suc j) core = drop-cons core j d g in
    ap (λ (xs : List CoreEdge). lines_lacking xs (drop j core)) here
    ∙ (ap (λ (xs : List CoreEdge). lines_lacking (get_or edges i d ∷ drop (i + 1) edges) xs) there
    ∙ (match_edge (get_or edges i d) (get_or core j d) (drop (i + 1) edges) (drop (suc j) core) (drop_rises (λ (e : CoreEdge). e.line) 0 core j d r g) same
    ∙ ap (λ n. lines_lacking (drop (i + 1) edges) (drop n core)) (one_more j)))

pub miss_at : (edges core : List CoreEdge) (i j : ℕ) (d : CoreEdge) → RisesBy (λ e. e.line) 0 edges → RisesBy (λ e. e.line) 0 core → i ≤ length edges → j < length core → (i ≡ length edges) ⊎ ((get_or core j d).line < (get_or edges i d).line) → least (lines_lacking (drop i edges) (drop j core)) ≡ Some (get_or core j d).line
miss_at edges core i j d s r h g above =
    let c : CoreEdge = get_or core j d in
    let there : drop j core ≡ c ∷ drop (suc j) core = drop-cons core j d g in
    ap (λ (xs : List CoreEdge). least (lines_lacking (drop i edges) xs)) there
    ∙ miss_edge c (drop i edges) (drop (suc j) core) (drop_rises (λ (e : CoreEdge). e.line) 0 core j d r g) (rest (cases_lt i (length edges)) above)
  where
    rest : (i < length edges) ⊎ (length edges ≤ i) → (i ≡ length edges) ⊎ ((get_or core j d).line < (get_or edges i d).line) → RisesBy (λ e. e.line) (suc (get_or core j d).line) (drop i edges)
    rest (inl more) (inl all) = absurd (omega arith)
    rest (inl more) (inr over) =
        let here : drop i edges ≡ get_or edges i d ∷ drop (suc i) edges = drop-cons edges i d more in
        subst (λ (xs : List CoreEdge). RisesBy (λ e. e.line) (suc (get_or core j d).line) xs) (sym here) (over, drop_rises (λ (e : CoreEdge). e.line) 0 edges i d s more)
    rest (inr none) over = subst (λ (xs : List CoreEdge). RisesBy (λ e. e.line) (suc (get_or core j d).line) xs) (sym (drop_all i edges none)) tt

pub none_at : (edges core : List CoreEdge) (i j : ℕ) → length core ≤ j → least (lines_lacking (drop i edges) (drop j core)) ≡ None
none_at edges core i j h = ap (λ (xs : List CoreEdge). least (lines_lacking (drop i edges) xs)) (drop_all j core h)

-- the lists of pairs
abbrev pub pair_or : Pair
pair_or = record { first = 0; again = 0 }

apart_least : (real equal : List Pair) (n : ℕ) → In (lines_apart real equal) n → ((x : Pair) → In real x → n ≤ x.again) → ((x : Pair) → In equal x → n ≤ x.again) → least (lines_apart real equal) ≡ Some n
apart_least real equal n m low low' = least_is (lines_apart real equal) n m (λ x k.
    let d : Comes (λ (p : Pair). p.again) (lacking same_pair real equal ++ lacking same_pair equal real) x = In-map_back (λ (p : Pair). p.again) (lacking same_pair real equal ++ lacking same_pair equal real) x k in
    let h : n ≤ d.from.again = elim (In-append_cases (lacking same_pair real equal) (lacking same_pair equal real) d.from d.member) [
      | inl a ↦ low' d.from (In-lacking_back same_pair real equal d.from a)
      | inr b ↦ low d.from (In-lacking_back same_pair equal real d.from b)
    ] in
    subst (λ z. n ≤ z) d.is h)

in_real : (real equal : List Pair) (q : Pair) → In real q → (In equal q → ⊥) → In (lines_apart real equal) q.again
in_real real equal q m none = In-map (λ (p : Pair). p.again) (lacking same_pair real equal ++ lacking same_pair equal real) q (In-append_right (lacking same_pair real equal) (lacking same_pair equal real) q (In-lacking same_pair pair_equality equal real q m none))

in_equal : (real equal : List Pair) (q : Pair) → In equal q → (In real q → ⊥) → In (lines_apart real equal) q.again
in_equal real equal q m none = In-map (λ (p : Pair). p.again) (lacking same_pair real equal ++ lacking same_pair equal real) q (In-append_left (lacking same_pair real equal) (lacking same_pair equal real) q (In-lacking same_pair pair_equality real equal q m none))

-- the same pair first in both
match_pair : (q p : Pair) (qs ps : List Pair) → RisesBy (λ x. x.again) (suc q.again) qs → RisesBy (λ x. x.again) (suc p.again) ps → q ≡ p → lines_apart (q ∷ qs) (p ∷ ps) ≡ lines_apart qs ps
match_pair q p qs ps r s same =
    let lines : q.again ≡ p.again = ap (λ (x : Pair). x.again) same in
    let a : lacking same_pair (q ∷ qs) (p ∷ ps) ≡ lacking same_pair qs ps =
    lacking_found same_pair pair_equality (q ∷ qs) p ps (inl same)
    ∙ lacking_skips same_pair pair_equality q qs ps (not_later (λ (x : Pair). x.again) (suc p.again) ps q s (omega arith)) in
    let b : lacking same_pair (p ∷ ps) (q ∷ qs) ≡ lacking same_pair ps qs =
    lacking_found same_pair pair_equality (p ∷ ps) q qs (inl (sym same))
    ∙ lacking_skips same_pair pair_equality p ps qs (not_later (λ (x : Pair). x.again) (suc q.again) qs p r (omega arith)) in
    ap (λ xs. map (λ (x : Pair). x.again) (xs ++ lacking same_pair (p ∷ ps) (q ∷ qs))) a ∙ ap (λ xs. map (λ (x : Pair). x.again) (lacking same_pair qs ps ++ xs)) b

-- other pairs
differ_pair : (q p : Pair) (qs ps : List Pair) → RisesBy (λ x. x.again) (suc q.again) qs → RisesBy (λ x. x.again) (suc p.again) ps → (q ≡ p → ⊥) → least (lines_apart (q ∷ qs) (p ∷ ps)) ≡ Some (min q.again p.again)
differ_pair q p qs ps r s ne = apart_least (q ∷ qs) (p ∷ ps) (min q.again p.again) (member (cases_lt p.again q.again)) low low'
  where
    low : (x : Pair) → In (q ∷ qs) x → min q.again p.again ≤ x.again
    low x m = let h : q.again ≤ x.again = low_of (λ (y : Pair). y.again) q.again (q ∷ qs) x (omega arith, r) m in omega arith

    low' : (x : Pair) → In (p ∷ ps) x → min q.again p.again ≤ x.again
    low' x m = let h : p.again ≤ x.again = low_of (λ (y : Pair). y.again) p.again (p ∷ ps) x (omega arith, s) m in omega arith

    not_equal : q.again ≤ p.again → In (p ∷ ps) q → ⊥
    not_equal h (inl e) = ne (sym e)
    not_equal h (inr m) = not_later (λ (x : Pair). x.again) (suc p.again) ps q s (omega arith) m

    member : (p.again < q.again) ⊎ (q.again ≤ p.again) → In (lines_apart (q ∷ qs) (p ∷ ps)) (min q.again p.again)
    member (inl less) =
        let e : p.again ≡ min q.again p.again = omega arith in
        subst (In (lines_apart (q ∷ qs) (p ∷ ps))) e (in_equal (q ∷ qs) (p ∷ ps) p (inl refl) (λ m. not_later (λ (x : Pair). x.again) q.again (q ∷ qs) p (omega arith, r) less m))
    member (inr more) =
        let e : q.again ≡ min q.again p.again = omega arith in
        subst (In (lines_apart (q ∷ qs) (p ∷ ps))) e (in_real (q ∷ qs) (p ∷ ps) q (inl refl) (not_equal more))

-- only one list has a pair
real_pair : (q : Pair) (qs : List Pair) → RisesBy (λ x. x.again) (suc q.again) qs → least (lines_apart (q ∷ qs) []) ≡ Some q.again
real_pair q qs r = apart_least (q ∷ qs) [] q.again (in_real (q ∷ qs) [] q (inl refl) (λ m. m)) (λ x m. low_of (λ (y : Pair). y.again) q.again (q ∷ qs) x (omega arith, r) m) (λ x m. absurd m)

equal_pair : (p : Pair) (ps : List Pair) → RisesBy (λ x. x.again) (suc p.again) ps → least (lines_apart [] (p ∷ ps)) ≡ Some p.again
equal_pair p ps r = apart_least [] (p ∷ ps) p.again (in_equal [] (p ∷ ps) p (inl refl) (λ m. m)) (λ x m. absurd m) (λ x m. low_of (λ (y : Pair). y.again) p.again (p ∷ ps) x (omega arith, r) m)

-- the same at places of the lists
pub match_pair_at : (real equal : List Pair) (i : ℕ) → RisesBy (λ x. x.again) 0 real → RisesBy (λ x. x.again) 0 equal → i < length real → i < length equal → get_or real i pair_or ≡ get_or equal i pair_or → lines_apart (drop i real) (drop i equal) ≡ lines_apart (drop (i + 1) real) (drop (i + 1) equal)
match_pair_at real equal i r s h g same =
    ap (λ (xs : List Pair). lines_apart xs (drop i equal)) (drop-cons real i pair_or h)
    ∙ (ap (λ (xs : List Pair). lines_apart (get_or real i pair_or ∷ drop (suc i) real) xs) (drop-cons equal i pair_or g)
    ∙ (match_pair (get_or real i pair_or) (get_or equal i pair_or) (drop (suc i) real) (drop (suc i) equal) (drop_rises (λ (x : Pair). x.again) 0 real i pair_or r h) (drop_rises (λ (x : Pair). x.again) 0 equal i pair_or s g) same
    ∙ ap (λ n. lines_apart (drop n real) (drop n equal)) (one_more i)))

pub differ_pair_at : (real equal : List Pair) (i : ℕ) → RisesBy (λ x. x.again) 0 real → RisesBy (λ x. x.again) 0 equal → i < length real → i < length equal → (get_or real i pair_or ≡ get_or equal i pair_or → ⊥) → least (lines_apart (drop i real) (drop i equal)) ≡ Some (min (get_or real i pair_or).again (get_or equal i pair_or).again)
differ_pair_at real equal i r s h g ne =
    ap (λ (xs : List Pair). least (lines_apart xs (drop i equal))) (drop-cons real i pair_or h)
    ∙ (ap (λ (xs : List Pair). least (lines_apart (get_or real i pair_or ∷ drop (suc i) real) xs)) (drop-cons equal i pair_or g)
    ∙ differ_pair (get_or real i pair_or) (get_or equal i pair_or) (drop (suc i) real) (drop (suc i) equal) (drop_rises (λ (x : Pair). x.again) 0 real i pair_or r h) (drop_rises (λ (x : Pair). x.again) 0 equal i pair_or s g) ne)

pub real_pair_at : (real equal : List Pair) (i : ℕ) → RisesBy (λ x. x.again) 0 real → i < length real → length equal ≤ i → least (lines_apart (drop i real) (drop i equal)) ≡ Some (get_or real i pair_or).again
real_pair_at real equal i r h g =
    ap (λ (xs : List Pair). least (lines_apart (drop i real) xs)) (drop_all i equal g)
    ∙ (ap (λ (xs : List Pair). least (lines_apart xs [])) (drop-cons real i pair_or h)
    ∙ real_pair (get_or real i pair_or) (drop (suc i) real) (drop_rises (λ (x : Pair). x.again) 0 real i pair_or r h))

pub equal_pair_at : (real equal : List Pair) (i : ℕ) → RisesBy (λ x. x.again) 0 equal → length real ≤ i → i < length equal → least (lines_apart (drop i real) (drop i equal)) ≡ Some (get_or equal i pair_or).again
equal_pair_at real equal i s h g =
    ap (λ (xs : List Pair). least (lines_apart xs (drop i equal))) (drop_all i real h)
    ∙ (ap (λ (xs : List Pair). least (lines_apart [] xs)) (drop-cons equal i pair_or g)
    ∙ equal_pair (get_or equal i pair_or) (drop (suc i) equal) (drop_rises (λ (x : Pair). x.again) 0 equal i pair_or s g))

pub no_pair_at : (real equal : List Pair) (i : ℕ) → length real ≤ i → length equal ≤ i → least (lines_apart (drop i real) (drop i equal)) ≡ None
no_pair_at real equal i h g =
    ap (λ (xs : List Pair). least (lines_apart xs (drop i equal))) (drop_all i real h) ∙ ap (λ (xs : List Pair). least (lines_apart [] xs)) (drop_all i equal g)

pub same_lines : (p q : Pair) → p.first ≡ q.first → p.again ≡ q.again → p ≡ q
same_lines p q first again =
    ap (λ z. let r : Pair = record { first = z; again = p.again } in r) first
    ∙ ap (λ z. let r : Pair = record { first = q.first; again = z } in r) again

-- edges with the same line: the same first, or others
match_both : (o e : CoreEdge) (os es : List CoreEdge) → RisesBy (λ x. x.line) (suc e.line) es → o ≡ e → lines_other (o ∷ os) (e ∷ es) ≡ lines_other os es
match_both o e os es r same =
    let lines : o.line ≡ e.line = ap (λ (x : CoreEdge). x.line) same in
    ap (map (λ (x : CoreEdge). x.line))
    (lacking_found same_edge edge_equality (o ∷ os) e es (inl same)
    ∙ lacking_skips same_edge edge_equality o os es (not_later (λ (x : CoreEdge). x.line) (suc e.line) es o r (omega arith)))

differ_both : (o e : CoreEdge) (os es : List CoreEdge) → RisesBy (λ x. x.line) (suc o.line) os → RisesBy (λ x. x.line) (suc e.line) es → o.line ≡ e.line → (o ≡ e → ⊥) → least (lines_other (o ∷ os) (e ∷ es)) ≡ Some e.line
differ_both o e os es s r lines ne =
    let none : In (o ∷ os) e → ⊥ = λ m. go m in
    least_is (lines_other (o ∷ os) (e ∷ es)) e.line
    (In-map (λ (x : CoreEdge). x.line) (lacking same_edge (o ∷ os) (e ∷ es)) e (In-lacking same_edge edge_equality (o ∷ os) (e ∷ es) e (inl refl) none))
    (λ x m.
    let d : Comes (λ (y : CoreEdge). y.line) (lacking same_edge (o ∷ os) (e ∷ es)) x = In-map_back (λ (y : CoreEdge). y.line) (lacking same_edge (o ∷ os) (e ∷ es)) x m in
    let g : e.line ≤ d.from.line = low_of (λ (y : CoreEdge). y.line) e.line (e ∷ es) d.from (omega arith, r) (In-lacking_back same_edge (o ∷ os) (e ∷ es) d.from d.member) in
    subst (λ z. e.line ≤ z) d.is g)
  where
    go : In (o ∷ os) e → ⊥
    go (inl same) = ne same
    go (inr m) = not_later (λ (x : CoreEdge). x.line) (suc o.line) os e s (omega arith) m

pub match_both_at : (own edges : List CoreEdge) (i : ℕ) → RisesBy (λ x. x.line) 0 edges → i < length own → i < length edges → get_or own i edge_or ≡ get_or edges i edge_or → lines_other (drop i own) (drop i edges) ≡ lines_other (drop (i + 1) own) (drop (i + 1) edges)
match_both_at own edges i r h g same =
    ap (λ (xs : List CoreEdge). lines_other xs (drop i edges)) (drop-cons own i edge_or h)
    ∙ (ap (λ (xs : List CoreEdge). lines_other (get_or own i edge_or ∷ drop (suc i) own) xs) (drop-cons edges i edge_or g)
    ∙ (match_both (get_or own i edge_or) (get_or edges i edge_or) (drop (suc i) own) (drop (suc i) edges) (drop_rises (λ (x : CoreEdge). x.line) 0 edges i edge_or r g) same
    ∙ ap (λ n. lines_other (drop n own) (drop n edges)) (one_more i)))

pub differ_both_at : (own edges : List CoreEdge) (i : ℕ) → RisesBy (λ x. x.line) 0 own → RisesBy (λ x. x.line) 0 edges → map (λ x. x.line) own ≡ map (λ x. x.line) edges → i < length own → i < length edges → (get_or own i edge_or ≡ get_or edges i edge_or → ⊥) → least (lines_other (drop i own) (drop i edges)) ≡ Some (get_or edges i edge_or).line
differ_both_at own edges i s r lines h g ne =
    let line : CoreEdge → ℕ = λ x. x.line in
    let same : (get_or own i edge_or).line ≡ (get_or edges i edge_or).line = sym (get_or-map line own i edge_or 0 h) ∙ (ap (λ (ns : List ℕ). get_or ns i 0) lines ∙ get_or-map line edges i edge_or 0 g) in
    ap (λ (xs : List CoreEdge). least (lines_other xs (drop i edges))) (drop-cons own i edge_or h)
    ∙ (ap (λ (xs : List CoreEdge). least (lines_other (get_or own i edge_or ∷ drop (suc i) own) xs)) (drop-cons edges i edge_or g)
    ∙ differ_both (get_or own i edge_or) (get_or edges i edge_or) (drop (suc i) own) (drop (suc i) edges) (drop_rises (λ (x : CoreEdge). x.line) 0 own i edge_or s h) (drop_rises (λ (x : CoreEdge). x.line) 0 edges i edge_or r g) same ne)

pub same_length : (own edges : List CoreEdge) → map (λ x. x.line) own ≡ map (λ x. x.line) edges → length own ≡ length edges
same_length own edges lines = sym (length-map own (λ (x : CoreEdge). x.line)) ∙ (ap length lines ∙ length-map edges (λ (x : CoreEdge). x.line))

pub none_both_at : (own edges : List CoreEdge) (i : ℕ) → length edges ≤ i → least (lines_other (drop i own) (drop i edges)) ≡ None
none_both_at own edges i h = ap (λ (xs : List CoreEdge). least (lines_other (drop i own) xs)) (drop_all i edges h)
