-- Numbers and places of keys, one part after another.
use Rattle.std.specs.Prelude.{◌≡◌, ℕ, ◌+◌, ◌-◌, ◌<◌, ◌≤◌, List, [], ◌∷◌, ◌++◌, Option, None, length, slice_index_or, refl}
use Rattle.std.proofs.Common.{arith, ap, sym, ◌∙◌, inl, inr}
use Rattle.std.proofs.lemmas.Bool.{cases_lt}
use Rattle.std.proofs.lemmas.List.{get_or_append_left, get_or-append_right, length-append}
use Rattle.cm_keys_lent.specs.Ends.{key_in}
use Rattle.cm_keys_lent.specs.Pass.{LentPass}
use Rattle.cm_algo_scheme.specs.Answering as together
use Rattle.cm_lib_lent.specs.Numbers.{AreAnswered, ArePlaces, ArePut}

-- the numbers of some keys, and then those of the next
pub put_more : (answer : List ℕ → Option ℕ) (keys : LentPass) (from mid until : ℕ) (a b c : List ℕ) → from ≤ mid → mid ≤ until → ArePut answer keys from mid a b → ArePut answer keys mid until b c → ArePut answer keys from until a c
put_more answer keys from mid until a b c l m p q = record {
  len = q.len ∙ p.len;
  before = λ i k. q.before i (omega arith) ∙ p.before i k;
  put = λ i k n. elim (cases_lt i mid) [
    | inl h ↦ q.before i h ∙ p.put i k h
    | inr h ↦ q.put i h n
  ];
  after = λ i k. q.after i k ∙ p.after i (omega arith);
}

-- the places of some keys, and then those of the next
pub places_more : (place : List ℕ → List ℕ) (keys : LentPass) (from mid until : ℕ) (xs ys : List (List ℕ)) → from ≤ mid → mid ≤ until → ArePlaces place keys from mid xs → ArePlaces place keys mid until ys → ArePlaces place keys from until (xs ++ ys)
places_more place keys from mid until xs ys l m p q = record {
  many = omega (arith, length-append xs ys, p.many, q.many);
  are = λ i k n. elim (cases_lt i mid) [
    | inl h ↦ get_or_append_left xs ys [] (i - from) (omega (arith, p.many)) ∙ p.are i k h
    | inr h ↦
        let rest : i - from - length xs ≡ i - mid = omega (arith, p.many) in
        get_or-append_right xs ys (length xs) (i - from) [] refl (omega (arith, p.many)) ∙ ap (λ k. slice_index_or ys k []) rest ∙ q.are i h n
  ];
}

-- the place of one key
pub place_one : (place : List ℕ → List ℕ) (keys : LentPass) (from until : ℕ) (x : List ℕ) → until ≡ from + 1 → x ≡ place (key_in keys.bytes keys.ends from) → ArePlaces place keys from until (x ∷ [])
place_one place keys from until x u e = record {
  many = omega (arith, u);
  are = λ i k n.
      let here : from ≡ i = omega (arith, u) in
      let first : i - from ≡ 0 = omega (arith, u) in
      rw first (e ∙ ap (λ k. place (key_in keys.bytes keys.ends k)) here);
}

-- the places of four keys
pub place_four : (place : List ℕ → List ℕ) (keys : LentPass) (from : ℕ) (x y z t : List ℕ) → x ≡ place (key_in keys.bytes keys.ends from) → y ≡ place (key_in keys.bytes keys.ends (from + 1)) → z ≡ place (key_in keys.bytes keys.ends (from + 2)) → t ≡ place (key_in keys.bytes keys.ends (from + 3)) → ArePlaces place keys from (from + 4) (x ∷ y ∷ z ∷ t ∷ [])
place_four place keys from x y z t a b c d =
    places_more place keys from (from + 1) (from + 4) (x ∷ []) (y ∷ z ∷ t ∷ []) (omega arith) (omega arith)
    (place_one place keys from (from + 1) x refl a)
    (places_more place keys (from + 1) (from + 2) (from + 4) (y ∷ []) (z ∷ t ∷ []) (omega arith) (omega arith)
    (place_one place keys (from + 1) (from + 2) y (omega arith) b)
    (places_more place keys (from + 2) (from + 3) (from + 4) (z ∷ []) (t ∷ []) (omega arith) (omega arith)
    (place_one place keys (from + 2) (from + 3) z (omega arith) c)
    (place_one place keys (from + 3) (from + 4) t (omega arith) d)))

-- each of the places is that of a key
pub places_are : (place : List ℕ → List ℕ) (keys : LentPass) (from until : ℕ) (places : List (List ℕ)) → ArePlaces place keys from until places → together.ArePlaces place places
places_are place keys from until places are = λ i l.
    let back : from + i - from ≡ i = omega arith in
    (key_in keys.bytes keys.ends (from + i), ap (λ k. slice_index_or places k []) (sym back) ∙ are.are (from + i) (omega arith) (omega (arith, l, are.many)))

-- the answers to these places, in front of others, are those of the keys
pub answers_read : (place : List ℕ → List ℕ) (answer : List ℕ → Option ℕ) (span : ℕ) (keys : LentPass) (from until : ℕ) (places : List (List ℕ)) (answers behind : List (Option ℕ)) → ArePlaces place keys from until places
    → together.AnswersAll place answer span places answers → AreAnswered answer keys from until (answers ++ behind)
answers_read place answer span keys from until places answers behind are found = λ i k n.
    let inside : i - from < length places = omega (arith, k, n, are.many) in
    get_or_append_left answers behind None (i - from) (omega (arith, inside, found.many))
    ∙ found.are (i - from) inside (key_in keys.bytes keys.ends i) (are.are i k n)
