-- Members of lists, and lists that rise by a number of their items.
use Rattle.std.proofs.Common.{◌≡◌, ◌⊎◌, ℕ, zero, suc, ◌<◌, ◌≤◌, Bool, true, false, cond, List, [], ◌∷◌, ◌++◌, map, length, get_or, sym, refl, ap, ◌∙◌, subst, inl, inr, arith}
use Rattle.std.specs.List.{All, filter, flat_map}
use Rattle.std.proofs.lemmas.Bool.{eqb-true, eq-eqb, or_cases, or_left, or_right, false≢true}
use Rattle.std.proofs.lemmas.List.Elements.{All-cons, All-head, All-nil, All-tail}
use Rattle.cm_judge_verdict.specs.Rising.{RisesBy}
use Rattle.cm_peel.specs.SetLaws.{Rises}
use Rattle.cm_spec.specs.Lists.{has}

-- x is one of the items
abbrev pub In : {X : Type 0} → List X → X → Type 0
In [] x = ⊥
In (y ∷ ys) x = (y ≡ x) ⊎ In ys x

pub In-map : {X Y : Type 0} (f : X → Y) (xs : List X) (x : X) → In xs x → In (map f xs) (f x)
In-map f [] x h = absurd h
In-map f (y ∷ ys) x (inl e) = inl (ap f e)
In-map f (y ∷ ys) x (inr m) = inr (In-map f ys x m)

-- an item that a function maps to y
pub record Comes {X Y : Type 0} (f : X → Y) (xs : List X) (y : Y) : Type 0 where
  pub from : X
  pub member : In xs from
  pub is : f from ≡ y

pub In-map_back : {X Y : Type 0} (f : X → Y) (xs : List X) (y : Y) → In (map f xs) y → Comes f xs y
In-map_back f [] y h = absurd h
In-map_back f (x ∷ xs) y (inl e) = record { from = x; member = inl refl; is = e }
In-map_back f (x ∷ xs) y (inr m) = let r = In-map_back f xs y m in record { from = r.from; member = inr r.member; is = r.is }

pub In-filter : {X : Type 0} (p : X → Bool) (xs : List X) (x : X) → In xs x → p x ≡ true → In (filter p xs) x
In-filter p [] x h pass = absurd h
In-filter p (y ∷ ys) x (inl e) pass = rw (ap p e ∙ pass) (inl e)
In-filter p (y ∷ ys) x (inr m) pass = go (p y) (In-filter p ys x m pass) where
  go : (b : Bool) → In (filter p ys) x → In (cond b (y ∷ filter p ys) (filter p ys)) x
  go true n = inr n
  go false n = n

pub In-filter_back : {X : Type 0} (p : X → Bool) (xs : List X) (x : X) → In (filter p xs) x → In xs x × (p x ≡ true)
In-filter_back p [] x h = absurd h
In-filter_back p (y ∷ ys) x h = go (p y) refl (λ m. In-filter_back p ys x m) h where
  go : (b : Bool) → p y ≡ b → (In (filter p ys) x → In ys x × (p x ≡ true)) → In (cond b (y ∷ filter p ys) (filter p ys)) x → ((y ≡ x) ⊎ In ys x) × (p x ≡ true)
  go true is more (inl e) = (inl e, ap p (sym e) ∙ is)
  go true is more (inr m) = let r = more m in (inr r.0, r.1)
  go false is more m = let r = more m in (inr r.0, r.1)

pub In-append_left : {X : Type 0} (xs ys : List X) (x : X) → In xs x → In (xs ++ ys) x
In-append_left [] ys x h = absurd h
In-append_left (y ∷ xs) ys x (inl e) = inl e
In-append_left (y ∷ xs) ys x (inr m) = inr (In-append_left xs ys x m)

pub In-append_right : {X : Type 0} (xs ys : List X) (x : X) → In ys x → In (xs ++ ys) x
In-append_right [] ys x h = h
In-append_right (y ∷ xs) ys x h = inr (In-append_right xs ys x h)

pub In-append_cases : {X : Type 0} (xs ys : List X) (x : X) → In (xs ++ ys) x → In xs x ⊎ In ys x
In-append_cases [] ys x h = inr h
In-append_cases (y ∷ xs) ys x (inl e) = inl (inl e)
In-append_cases (y ∷ xs) ys x (inr m) = elim (In-append_cases xs ys x m) [ inl l ↦ inl (inr l) | inr r ↦ inr r ]

pub In-flat : {X Y : Type 0} (f : X → List Y) (xs : List X) (x : X) (y : Y) → In xs x → In (f x) y → In (flat_map f xs) y
In-flat f [] x y h m = absurd h
In-flat f (z ∷ zs) x y (inl e) m = In-append_left (f z) (flat_map f zs) y (subst (λ w. In (f w) y) (sym e) m)
In-flat f (z ∷ zs) x y (inr h) m = In-append_right (f z) (flat_map f zs) y (In-flat f zs x y h m)

-- an item whose list has y
pub record ComesFlat {X Y : Type 0} (f : X → List Y) (xs : List X) (y : Y) : Type 0 where
  pub from : X
  pub member : In xs from
  pub has_it : In (f from) y

pub In-flat_back : {X Y : Type 0} (f : X → List Y) (xs : List X) (y : Y) → In (flat_map f xs) y → ComesFlat f xs y
In-flat_back f [] y h = absurd h
In-flat_back f (x ∷ xs) y h = elim (In-append_cases (f x) (flat_map f xs) y h) [
  | inl m ↦ record { from = x; member = inl refl; has_it = m }
  | inr m ↦ let r = In-flat_back f xs y m in record { from = r.from; member = inr r.member; has_it = r.has_it }
]

-- numbers
pub has-from_In : (xs : List ℕ) (x : ℕ) → In xs x → has xs x ≡ true
has-from_In [] x h = absurd h
has-from_In (y ∷ ys) x (inl e) = or_left _ _ (eq-eqb y x e)
has-from_In (y ∷ ys) x (inr m) = or_right _ _ (has-from_In ys x m)

pub In-from_has : (xs : List ℕ) (x : ℕ) → has xs x ≡ true → In xs x
In-from_has [] x h = absurd (false≢true h)
In-from_has (y ∷ ys) x h = elim (or_cases _ _ h) [ inl e ↦ inl (eqb-true y x e) | inr m ↦ inr (In-from_has ys x m) ]

pub All-from_In : {X : Type 0} (P : X → Type 0) (xs : List X) → ((x : X) → In xs x → P x) → All P xs
All-from_In P [] h = All-nil P
All-from_In P (x ∷ xs) h = All-cons P x xs (h x (inl refl)) (All-from_In P xs (λ y m. h y (inr m)))

pub All-at : {X : Type 0} (P : X → Type 0) (xs : List X) (x : X) → All P xs → In xs x → P x
All-at P [] x h m = absurd m
All-at P (y ∷ ys) x h (inl e) = subst P e (All-head P y ys h)
All-at P (y ∷ ys) x h (inr m) = All-at P ys x (All-tail P y ys h) m

pub In-get_or : {X : Type 0} (xs : List X) (k : ℕ) (d : X) → k < length xs → In xs (get_or xs k d)
In-get_or [] k d h = absurd (omega arith)
In-get_or (x ∷ xs) zero d h = inl refl
In-get_or (x ∷ xs) (suc k) d h = inr (In-get_or xs k d (omega arith))

pub filter_none : {X : Type 0} (p : X → Bool) (xs : List X) → ((x : X) → In xs x → p x ≡ false) → filter p xs ≡ []
filter_none p [] h = refl
filter_none p (x ∷ xs) h = rw (h x (inl refl)) (filter_none p xs (λ y m. h y (inr m)))

pub RisesBy-weaker : {X : Type 0} (f : X → ℕ) (low low' : ℕ) (xs : List X) → low' ≤ low → RisesBy f low xs → RisesBy f low' xs
RisesBy-weaker f low low' [] h r = tt
RisesBy-weaker f low low' (x ∷ xs) h r = (omega (arith, r.0), r.1)

pub RisesBy-filter : {X : Type 0} (f : X → ℕ) (p : X → Bool) (low : ℕ) (xs : List X) → RisesBy f low xs → RisesBy f low (filter p xs)
RisesBy-filter f p low [] r = tt
RisesBy-filter f p low (x ∷ xs) r = go (p x) (RisesBy-filter f p (suc (f x)) xs r.1) where
  go : (b : Bool) → RisesBy f (suc (f x)) (filter p xs) → RisesBy f low (cond b (x ∷ filter p xs) (filter p xs))
  go true s = (r.0, s)
  go false s = RisesBy-weaker f (suc (f x)) low (filter p xs) (omega (arith, r.0)) s

pub RisesBy-from_map : {X : Type 0} (f : X → ℕ) (low : ℕ) (xs : List X) → Rises low (map f xs) → RisesBy f low xs
RisesBy-from_map f low [] r = tt
RisesBy-from_map f low (x ∷ xs) r = (r.0, RisesBy-from_map f (suc (f x)) xs r.1)

pub RisesBy-from_Rises : (low : ℕ) (xs : List ℕ) → Rises low xs → RisesBy (λ x. x) low xs
RisesBy-from_Rises low [] r = tt
RisesBy-from_Rises low (x ∷ xs) r = (r.0, RisesBy-from_Rises (suc x) xs r.1)

pub low_of : {X : Type 0} (f : X → ℕ) (low : ℕ) (xs : List X) (x : X) → RisesBy f low xs → In xs x → low ≤ f x
low_of f low [] x r h = absurd h
low_of f low (y ∷ ys) x r (inl e) = subst (λ z. low ≤ f z) e r.0
low_of f low (y ∷ ys) x r (inr m) = let h : suc (f y) ≤ f x = low_of f (suc (f y)) ys x r.1 m in omega (arith, r.0)

-- the number tells the items apart
pub same_by : {X : Type 0} (f : X → ℕ) (low : ℕ) (xs : List X) (x y : X) → RisesBy f low xs → In xs x → In xs y → f x ≡ f y → x ≡ y
same_by f low [] x y r h g e = absurd h
same_by f low (z ∷ zs) x y r (inl a) (inl b) e = sym a ∙ b
same_by f low (z ∷ zs) x y r (inl a) (inr n) e = absurd (let h : suc (f z) ≤ f y = low_of f (suc (f z)) zs y r.1 n in let g : f z ≡ f x = ap f a in omega arith)
same_by f low (z ∷ zs) x y r (inr m) (inl b) e = absurd (let h : suc (f z) ≤ f x = low_of f (suc (f z)) zs x r.1 m in let g : f z ≡ f y = ap f b in omega arith)
same_by f low (z ∷ zs) x y r (inr m) (inr n) e = same_by f (suc (f z)) zs x y r.1 m n e

-- rising lists with the same items are the same
pub rising_equal : {X : Type 0} (f : X → ℕ) (low low' : ℕ) (xs ys : List X) → RisesBy f low xs → RisesBy f low' ys → ((x : X) → In xs x → In ys x) → ((x : X) → In ys x → In xs x) → xs ≡ ys
rising_equal f a b [] [] r s h g = refl
rising_equal f a b [] (y ∷ ys) r s h g = absurd (g y (inl refl))
rising_equal f a b (x ∷ xs) [] r s h g = absurd (h x (inl refl))
rising_equal {X} f a b (x ∷ xs) (y ∷ ys) r s h g =
    ap (λ z. z ∷ xs) first
    ∙ ap (λ zs. y ∷ zs) (rising_equal f (suc (f x)) (suc (f y)) xs ys r.1 s.1 (λ z m. there z m (h z (inr m))) (λ z m. back z m (g z (inr m))))
  where
    heads : (y ≡ x) ⊎ In ys x → (x ≡ y) ⊎ In xs y → x ≡ y
    heads (inl e) n = sym e
    heads (inr m) (inl e) = e
    heads (inr m) (inr n) = absurd (
        let p : suc (f y) ≤ f x = low_of f (suc (f y)) ys x s.1 m in
        let q : suc (f x) ≤ f y = low_of f (suc (f x)) xs y r.1 n in
        omega arith)

    first : x ≡ y
    first = heads (h x (inl refl)) (g y (inl refl))

    there : (z : X) → In xs z → (y ≡ z) ⊎ In ys z → In ys z
    there z m (inl e) = absurd (
        let p : suc (f x) ≤ f z = low_of f (suc (f x)) xs z r.1 m in
        let q : f x ≡ f z = ap f (first ∙ e) in
        omega arith)
    there z m (inr n) = n

    back : (z : X) → In ys z → (x ≡ z) ⊎ In xs z → In xs z
    back z m (inl e) = absurd (
        let p : suc (f y) ≤ f z = low_of f (suc (f y)) ys z s.1 m in
        let q : f y ≡ f z = ap f (sym first ∙ e) in
        omega arith)
    back z m (inr n) = n

-- a later item has a greater number
pub low_at : {X : Type 0} (f : X → ℕ) (low : ℕ) (xs : List X) (k : ℕ) (d : X) → RisesBy f low xs → k < length xs → low ≤ f (get_or xs k d)
low_at f low [] k d r h = absurd (omega arith)
low_at f low (x ∷ xs) zero d r h = r.0
low_at f low (x ∷ xs) (suc k) d r h = let g : suc (f x) ≤ f (get_or xs k d) = low_at f (suc (f x)) xs k d r.1 (omega arith) in omega (arith, r.0)

pub later_at : {X : Type 0} (f : X → ℕ) (low : ℕ) (xs : List X) (a b : ℕ) (d : X) → RisesBy f low xs → a < b → b < length xs → f (get_or xs a d) < f (get_or xs b d)
later_at f low [] a b d r h g = absurd (omega arith)
later_at f low (x ∷ xs) a zero d r h g = absurd (omega arith)
later_at f low (x ∷ xs) zero (suc b) d r h g = let p : suc (f x) ≤ f (get_or xs b d) = low_at f (suc (f x)) xs b d r.1 (omega arith) in omega arith
later_at f low (x ∷ xs) (suc a) (suc b) d r h g = later_at f (suc (f x)) xs a b d r.1 (omega arith) (omega arith)

-- the items at rising places rise, if those of a list do
pub rises_at : {X : Type 0} (f : X → ℕ) (at : ℕ → X) (n b low : ℕ) (these : List ℕ) → ((i j : ℕ) → i < j → j < n → f (at i) < f (at j)) → Rises b these → ((e : ℕ) → In these e → e < n) → ((e : ℕ) → b ≤ e → e < n → low ≤ f (at e)) → RisesBy f low (map at these)
rises_at f at n b low [] mono r within above = tt
rises_at f at n b low (e ∷ es) mono r within above = (
  above e r.0 (within e (inl refl)),
  rises_at f at n (suc e) (suc (f (at e))) es mono r.1 (λ x m. within x (inr m)) (λ x ge lt. let h : f (at e) < f (at x) = mono e x (omega arith) lt in omega arith),
)
