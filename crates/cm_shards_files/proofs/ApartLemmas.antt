-- The keys of all shards get numbers of their own.
use Rattle.std.proofs.Common.{◌≡◌, ◌∙◌, ◌⊎◌, ℕ, zero, suc, ◌+◌, ◌<◌, ◌≤◌, List, [], ◌∷◌, length, take, get_or, inl, inr, ap, sym, refl, arith, cond, eqb, true, false, Bool, Option, Some}
use Rattle.std.specs.Prelude.{filter, option_map}
use Rattle.std.specs.List.{range_with_len, sum_by}
use Rattle.std.proofs.lemmas.Bool.{cases_eq, cases_order, cond-true, cond-false, eq-eqb, ne_eqb}
use Rattle.std.proofs.lemmas.List.{take-take}
use Rattle.std.proofs.lemmas.List.Sums.{sum_by-cons, sum_by-take-le, sum_by_more, sum_by_more_le}
use Rattle.std.proofs.lemmas.Nat.{mod_below}
use Rattle.cm_bdz.specs.Numbering.{AnswersApart}
use Rattle.cm_func.specs.Functions.{answer_by, span_by}
use Rattle.cm_func.specs.declared.function.Func.{Func}
use Rattle.cm_route.specs.Routes.{Route, shard_of}
use Rattle.cm_spec.specs.Built.{key_at}
use Rattle.cm_shards_files.specs.Shards.{IsSharded, Sharded, function_at, no_function, number_by, number_in, offset_of, total_of}
use Rattle.cm_shards_files.specs.ShardsLaws.{AreApartByShard, HaveNoGaps, keys_of_shard}

-- ---- where the elements of a list stand among those that pass a test

-- how many of the elements before place i pass
abbrev place_in : {X : Type 0} → (X → Bool) → List X → ℕ → ℕ
place_in p xs i = length (filter p (take i xs))

-- an element that passes stands at this place
stands_at : {X : Type 0} (p : X → Bool) (xs : List X) (i : ℕ) (d : X) → i < length xs → p (get_or xs i d) ≡ true → (place_in p xs i < length (filter p xs)) × (get_or (filter p xs) (place_in p xs i) d ≡ get_or xs i d)
stands_at p [] i d inside passes = absurd (omega arith)
stands_at p (x ∷ xs) zero d inside passes = rw passes (omega arith, refl)
stands_at p (x ∷ xs) (suc i) d inside passes =
    let ih : (place_in p xs i < length (filter p xs)) × (get_or (filter p xs) (place_in p xs i) d ≡ get_or xs i d) = stands_at p xs i d (omega arith) passes in
    elim (p x) as (λ b. (length (cond b (x ∷ filter p (take i xs)) (filter p (take i xs))) < length (cond b (x ∷ filter p xs) (filter p xs))) × (get_or (cond b (x ∷ filter p xs) (filter p xs)) (length (cond b (x ∷ filter p (take i xs)) (filter p (take i xs)))) d ≡ get_or xs i d)) [ true ↦ (omega (arith, ih.0), ih.1) | false ↦ ih ]

-- a later one stands at a later place
place_rises : {X : Type 0} (p : X → Bool) (xs : List X) (i j : ℕ) (d : X) → i < j → j ≤ length xs → p (get_or xs i d) ≡ true → place_in p xs i < place_in p xs j
place_rises p [] i j d order inside passes = absurd (omega arith)
place_rises p (x ∷ xs) i zero d order inside passes = absurd (omega arith)
place_rises p (x ∷ xs) zero (suc j) d order inside passes = rw passes (omega arith)
place_rises p (x ∷ xs) (suc i) (suc j) d order inside passes =
    let ih : place_in p xs i < place_in p xs j = place_rises p xs i j d (omega arith) (omega arith) passes in
    elim (p x) as (λ b. length (cond b (x ∷ filter p (take i xs)) (filter p (take i xs))) < length (cond b (x ∷ filter p (take j xs)) (filter p (take j xs)))) [ true ↦ omega (arith, ih) | false ↦ ih ]

same_place : {X : Type 0} (p : X → Bool) (xs : List X) (i j : ℕ) (d : X) → i < length xs → j < length xs → p (get_or xs i d) ≡ true → p (get_or xs j d) ≡ true → place_in p xs i ≡ place_in p xs j → i ≡ j
same_place p xs i j d inside inside' passes passes' same = go (cases_order i j) where
  go : (i ≡ j) ⊎ ((i < j) ⊎ (j < i)) → i ≡ j
  go (inl is) = is
  go (inr (inl low)) = absurd (omega (arith, place_rises p xs i j d low (omega arith) passes))
  go (inr (inr high)) = absurd (omega (arith, place_rises p xs j i d high (omega arith) passes'))

-- ---- offsets

-- the numbers of a shard end before those of a later one begin
ends_before : (functions : List Func) (i j : ℕ) → i < j → j ≤ length functions → offset_of functions i + span_by (function_at functions i) ≤ offset_of functions j
ends_before functions i j order inside =
    omega (arith, sum_by_more span_by functions i no_function (omega arith), sum_by-take-le span_by (take j functions) (i + 1), ap (sum_by span_by) (take-take (i + 1) j functions (omega arith)))

-- the same number of two shards is one of the same shard
same_shard : (functions : List Func) (i j r s : ℕ) → i < length functions → j < length functions → r < span_by (function_at functions i) → s < span_by (function_at functions j) → offset_of functions i + r ≡ offset_of functions j + s → i ≡ j
same_shard functions i j r s inside inside' below below' same = go (cases_order i j) where
  go : (i ≡ j) ⊎ ((i < j) ⊎ (j < i)) → i ≡ j
  go (inl is) = is
  go (inr (inl low)) = absurd (omega (arith, ends_before functions i j low (omega arith), below, same))
  go (inr (inr high)) = absurd (omega (arith, ends_before functions j i high (omega arith), below', same))

-- ---- the numbers

-- the keys of shard k, by a test
abbrev in_shard : Route → ℕ → ℕ × List ℕ → Bool
in_shard r k key = eqb (shard_of r key.1) k

-- what is known of a key: its shard, and what the function of the shard answers
record Stands (keys : List (ℕ × List ℕ)) (s : Sharded) (i : ℕ) : Type 0 where
  shard : ℕ
  is : shard ≡ shard_of s.route (key_at keys i)
  inside : shard < length s.functions
  within : shard < s.route.shards
  answer : ℕ
  answers : answer_by (function_at s.functions shard) (key_at keys i) ≡ Some answer
  below : answer < span_by (function_at s.functions shard)

stands : (keys : List (ℕ × List ℕ)) (s : Sharded) (i : ℕ) → IsSharded s → AreApartByShard keys s → i < length keys → Stands keys s i
stands keys s i is apart there =
    let none : ℕ × List ℕ = (0, []) in
    let k = shard_of s.route (key_at keys i) in
    let within : k < s.route.shards = mod_below _ s.route.shards (omega (arith, is.some)) in
    let p = in_shard s.route k in
    let at = stands_at p keys i none there (eq-eqb k k refl) in
    let got = (apart k within).below (place_in p keys i) at.0 in
    record {
      shard = k;
      is = refl;
      inside = omega (arith, within, is.each);
      within = within;
      answer = got.0;
      answers = ap (λ (key : ℕ × List ℕ). answer_by (function_at s.functions k) key.1) (sym at.1) ∙ got.1;
      below = got.2;
    }

numbered : (keys : List (ℕ × List ℕ)) (s : Sharded) (i : ℕ) (t : Stands keys s i) → number_in s (key_at keys i) ≡ Some (offset_of s.functions t.shard + t.answer)
numbered keys s i t =
    ap (λ (k : ℕ). number_by s.functions k (key_at keys i)) (sym t.is) ∙ ap (option_map (λ v. offset_of s.functions t.shard + v)) t.answers

some_same : (a b : ℕ) → Some a ≡ Some b → a ≡ b
some_same a b e = cc

-- two keys of a shard with the same answer are the same
same_key : (keys : List (ℕ × List ℕ)) (s : Sharded) (i j k : ℕ) → AreApartByShard keys s → k < s.route.shards → i < length keys → j < length keys → shard_of s.route (key_at keys i) ≡ k → shard_of s.route (key_at keys j) ≡ k
    → answer_by (function_at s.functions k) (key_at keys i) ≡ answer_by (function_at s.functions k) (key_at keys j) → i ≡ j
same_key keys s i j k apart within inside inside' is is' same =
    let none : ℕ × List ℕ = (0, []) in
    let p = in_shard s.route k in
    let f = answer_by (function_at s.functions k) in
    let at = stands_at p keys i none inside (eq-eqb _ k is) in
    let at' = stands_at p keys j none inside' (eq-eqb _ k is') in
    let equal = ap (λ (key : ℕ × List ℕ). f key.1) at.1 ∙ same ∙ sym (ap (λ (key : ℕ × List ℕ). f key.1) at'.1) in
    same_place p keys i j none inside inside' (eq-eqb _ k is) (eq-eqb _ k is') ((apart k within).apart (place_in p keys i) (place_in p keys j) at.0 at'.0 equal)

pub apart_in_all : (keys : List (ℕ × List ℕ)) (s : Sharded) → IsSharded s → AreApartByShard keys s → AnswersApart keys (number_in s) (total_of s)
apart_in_all keys s is apart = record { below = below; apart = distinct } where
  below : (i : ℕ) → i < length keys → (n : ℕ) × (number_in s (key_at keys i) ≡ Some n) × (n < total_of s)
  below i inside =
      let t = stands keys s i is apart inside in
      (offset_of s.functions t.shard + t.answer, numbered keys s i t, omega (arith, sum_by_more_le span_by s.functions t.shard no_function t.inside, t.below))

  distinct : (i j : ℕ) → i < length keys → j < length keys → number_in s (key_at keys i) ≡ number_in s (key_at keys j) → i ≡ j
  distinct i j inside inside' same =
      let t = stands keys s i is apart inside in
      let u = stands keys s j is apart inside' in
      let numbers : offset_of s.functions t.shard + t.answer ≡ offset_of s.functions u.shard + u.answer = some_same _ _ (sym (numbered keys s i t) ∙ same ∙ numbered keys s j u) in
      let shard : t.shard ≡ u.shard = same_shard s.functions t.shard u.shard t.answer u.answer t.inside u.inside t.below u.below numbers in
      let answer : t.answer ≡ u.answer = omega (arith, numbers, ap (offset_of s.functions) shard) in
      let there : answer_by (function_at s.functions t.shard) (key_at keys j) ≡ Some u.answer = ap (λ (k : ℕ). answer_by (function_at s.functions k) (key_at keys j)) shard ∙ u.answers in
      same_key keys s i j t.shard apart t.within inside inside' (sym t.is) (sym u.is ∙ sym shard) (t.answers ∙ ap (λ (n : ℕ). let o : Option ℕ = Some n in o) answer ∙ sym there)

-- ---- as many numbers as keys

-- of n numbers from a on, one is b if b is among them, and else none
count_past : (b a n : ℕ) → b < a → sum_by (λ (j : ℕ). cond (eqb b j) 1 0) (range_with_len a n) ≡ 0
count_past b a zero h = refl
count_past b a (suc n) h =
    let no : cond {A = ℕ} (eqb b a) 1 0 ≡ 0 = cond-false (eqb b a) 1 0 (ne_eqb b a (λ e. absurd (omega arith))) in
    omega (arith, sum_by-cons (λ (j : ℕ). cond (eqb b j) 1 0) a (range_with_len (a + 1) n), count_past b (a + 1) n (omega arith))

one_past : (b a : ℕ) → a ≤ b → (b ≡ a → ⊥) → a + 1 ≤ b
one_past b a l f = omega arith

count_among : (b a n : ℕ) → a ≤ b → b < a + n → sum_by (λ (j : ℕ). cond (eqb b j) 1 0) (range_with_len a n) ≡ 1
count_among b a zero l h = absurd (omega arith)
count_among b a (suc n) l h = go (cases_eq b a) (λ past. count_among b (a + 1) n past (omega arith)) where
  go : (b ≡ a) ⊎ (b ≡ a → ⊥) → (a + 1 ≤ b → sum_by (λ (j : ℕ). cond (eqb b j) 1 0) (range_with_len (a + 1) n) ≡ 1) → sum_by (λ (j : ℕ). cond (eqb b j) 1 0) (range_with_len a (suc n)) ≡ 1
  go (inl e) later =
      let one : cond {A = ℕ} (eqb b a) 1 0 ≡ 1 = cond-true (eqb b a) 1 0 (eq-eqb b a e) in
      omega (arith, sum_by-cons (λ (j : ℕ). cond (eqb b j) 1 0) a (range_with_len (a + 1) n), count_past b (a + 1) n (omega arith))
  go (inr f) later =
      let no : cond {A = ℕ} (eqb b a) 1 0 ≡ 0 = cond-false (eqb b a) 1 0 (ne_eqb b a f) in
      let past : a + 1 ≤ b = one_past b a l f in
      omega (arith, sum_by-cons (λ (j : ℕ). cond (eqb b j) 1 0) a (range_with_len (a + 1) n), later past)

sum_of_sums : (f g h : ℕ → ℕ) → ((j : ℕ) → f j ≡ g j + h j) → (xs : List ℕ) → sum_by f xs ≡ sum_by g xs + sum_by h xs
sum_of_sums f g h each [] = refl
sum_of_sums f g h each (x ∷ xs) = omega (arith, sum_by-cons f x xs, sum_by-cons g x xs, sum_by-cons h x xs, each x, sum_of_sums f g h each xs)

sum_of_none : (xs : List ℕ) → sum_by (λ (j : ℕ). 0) xs ≡ 0
sum_of_none [] = refl
sum_of_none (x ∷ xs) = omega (arith, sum_by-cons (λ (j : ℕ). 0) x xs, sum_of_none xs)

one_more : {X : Type 0} (p : X → Bool) (x : X) (xs : List X) → length (filter p (x ∷ xs)) ≡ cond (p x) 1 0 + length (filter p xs)
one_more p x xs = elim (p x) as (λ b. length (cond b (x ∷ filter p xs) (filter p xs)) ≡ cond b 1 0 + length (filter p xs)) [ true ↦ omega arith | false ↦ omega arith ]

-- every key is in one shard
sizes_add_up : (keys : List (ℕ × List ℕ)) (r : Route) → 0 < r.shards → sum_by (λ (k : ℕ). length (keys_of_shard keys r k)) (range_with_len 0 r.shards) ≡ length keys
sizes_add_up [] r some = sum_of_none (range_with_len 0 r.shards)
sizes_add_up (x ∷ xs) r some =
    let b : ℕ = shard_of r x.1 in
    let low : b < r.shards = mod_below _ r.shards some in
    let here : sum_by (λ (j : ℕ). cond (eqb b j) 1 0) (range_with_len 0 r.shards) ≡ 1 = count_among b 0 r.shards (omega arith) (omega (arith, low)) in
    let split = sum_of_sums (λ (k : ℕ). length (keys_of_shard (x ∷ xs) r k)) (λ (j : ℕ). cond (eqb b j) 1 0) (λ (k : ℕ). length (keys_of_shard xs r k)) (λ k. one_more (in_shard r k) x xs) (range_with_len 0 r.shards) in
    omega (arith, sizes_add_up xs r some, split, here)

-- a sum over a list by its places
sum_by_places : (g : ℕ → ℕ) (xs : List Func) (a : ℕ) → ((j : ℕ) → j < length xs → span_by (get_or xs j no_function) ≡ g (a + j)) → sum_by span_by xs ≡ sum_by g (range_with_len a (length xs))
sum_by_places g [] a each = refl
sum_by_places g (x ∷ xs) a each =
    let here : span_by x ≡ g a = each 0 (omega arith) ∙ ap g (omega arith) in
    omega (arith, sum_by-cons span_by x xs, sum_by-cons g a (range_with_len (a + 1) (length xs)), sum_by_places g xs (a + 1) (λ j l. each (suc j) (omega arith) ∙ ap g (omega arith)), here)

pub as_many : (keys : List (ℕ × List ℕ)) (s : Sharded) → IsSharded s → HaveNoGaps keys s → total_of s ≡ length keys
as_many keys s is gaps =
    let g = λ (k : ℕ). length (keys_of_shard keys s.route k) in
    sum_by_places g s.functions 0 (λ j l. gaps j (omega (arith, l, is.each)) ∙ ap g (omega arith))
    ∙ ap (λ (n : ℕ). sum_by g (range_with_len 0 n)) is.each
    ∙ sizes_add_up keys s.route (omega (arith, is.some))
