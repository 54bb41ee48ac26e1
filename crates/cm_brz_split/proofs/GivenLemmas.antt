-- What a pass gave, one key after another.
use Rattle.std.proofs.Common.{◌≡◌, ◌∙◌, ℕ, ◌+◌, ◌<◌, Bool, cond, List, [], ◌∷◌, ◌++◌, length, length-append, map, get_or, set, eqb, refl, sym, ap, arith}
use Rattle.std.specs.Prelude.{filter, replicate}
use Rattle.std.proofs.lemmas.Grind.{get_or-set_at}
use Rattle.std.proofs.lemmas.List.Elements.{filter-append}
use Rattle.cm_brz_func.specs.Functions.{bucket_of, flipped}
use Rattle.cm_brz_split.proofs.PutLemmas.{count_one}
use Rattle.cm_brz_split.specs.Given.{GaveCount, GaveMore, GaveNext, GaveOver, GaveSizes}
use Rattle.cm_brz_split.specs.SizesLaws.{get_or-zeros, length_filter-cons, lowest_over, size_by_map}
use Rattle.cm_brz_split.specs.Split.{IsFirstOver, size_by_words}
use Rattle.cm_brz_func.specs.Splitting.{size_of_bucket}
use Rattle.cm_spec.specs.Lookup2.{words}

-- the size of a bucket of two lists
size_append : (xs ys : List (ℕ × List ℕ)) (k s j : ℕ) → size_of_bucket (xs ++ ys) k s j ≡ size_of_bucket xs k s j + size_of_bucket ys k s j
size_append xs ys k s j =
    let p : ℕ × List ℕ → Bool = λ key. eqb (bucket_of key.1 s k) j in
    ap length (filter-append p xs ys) ∙ length-append (filter p xs) (filter p ys)

-- with one key more
size_push : (keys : List (ℕ × List ℕ)) (key : ℕ × List ℕ) (k s j b : ℕ) → b ≡ bucket_of key.1 s k → size_of_bucket (keys ++ key ∷ []) k s j ≡ size_of_bucket keys k s j + cond (eqb b j) 1 0
size_push keys key k s j b is =
    let one : size_of_bucket (key ∷ []) k s j ≡ cond (eqb (bucket_of key.1 s k) j) 1 0 + 0 = length_filter-cons (λ (x : ℕ × List ℕ). eqb (bucket_of x.1 s k) j) key [] in
    let same : cond {A = ℕ} (eqb (bucket_of key.1 s k) j) 1 0 ≡ cond (eqb b j) 1 0 = ap (λ (v : ℕ). cond {A = ℕ} (eqb v j) 1 0) (sym is) in
    omega (arith, size_append keys (key ∷ []) k s j, one, same)

pub gave_none : (Gave : List (ℕ × List ℕ) → Type 0) (sizes : List ℕ) (k s n : ℕ) → Gave [] → sizes ≡ replicate n 0 → GaveSizes Gave sizes k s
gave_none Gave sizes k s n given e = record { keys = []; given = given; sizes_are = λ j low. ap (λ (xs : List ℕ). get_or xs j 0) e ∙ get_or-zeros n j }

pub gave_next : (Gave Now : List (ℕ × List ℕ) → Type 0) (sizes : List ℕ) (k s b n : ℕ) → GaveSizes Gave sizes k s → ((before : List (ℕ × List ℕ)) → Gave before → GaveNext Now before k s b) → b < length sizes → n ≡ get_or sizes b 0 + 1 → GaveSizes Now (set sizes b n) k s
gave_next Gave Now sizes k s b n h next low is =
    let one = next h.keys h.given in
    record {
      keys = h.keys ++ one.key ∷ [];
      given = one.given;
      sizes_are = λ j within. sym (size_push h.keys one.key k s j b one.bucket_is ∙ count_one sizes j b n (size_of_bucket h.keys k s j) low is (sym (h.sizes_are j within)));
    }

pub gave_more : (Gave Now : List (ℕ × List ℕ) → Type 0) (sizes now : List ℕ) (k s : ℕ) → GaveSizes Gave sizes k s → ((before : List (ℕ × List ℕ)) → Gave before → GaveMore Now before sizes now k s) → GaveSizes Now now k s
gave_more Gave Now sizes now k s h next =
    let four = next h.keys h.given in
    record {
      keys = h.keys ++ four.more;
      given = four.given;
      sizes_are = λ j within. omega (arith, four.counted j within, h.sizes_are j within, size_append h.keys four.more k s j);
    }

-- some keys more, counted by their hash values
pub more_counted : (Gave : List (ℕ × List ℕ) → Type 0) (before : List (ℕ × List ℕ)) (sizes now : List ℕ) (hashed : List (List ℕ)) (k s seed : ℕ) → seed ≡ flipped s
    → (more : List (ℕ × List ℕ)) × (hashed ≡ map (λ (key : ℕ × List ℕ). words key.1 seed) more) × Gave (before ++ more)
    → ((j : ℕ) → j < k → get_or now j 0 ≡ get_or sizes j 0 + size_by_words hashed k j) → GaveMore Gave before sizes now k s
more_counted Gave before sizes now hashed k s seed is given counts = record {
  more = given.0;
  given = given.2;
  counted = λ j low.
      let are : hashed ≡ map (λ (key : ℕ × List ℕ). words key.1 (flipped s)) given.0 = given.1 ∙ ap (λ (n : ℕ). map (λ (key : ℕ × List ℕ). words key.1 n) given.0) is in
      let same : size_by_words hashed k j ≡ size_of_bucket given.0 k s j = ap (λ (hs : List (List ℕ)). size_by_words hs k j) are ∙ size_by_map given.0 k s j in
      omega (arith, counts j low, same);
}

pub gave_over : (Gave : List (ℕ × List ℕ) → Type 0) (sizes : List ℕ) (k s bucket count : ℕ) → GaveSizes Gave sizes k s → length sizes ≡ k → IsFirstOver sizes bucket count → GaveOver Gave k s bucket count
gave_over Gave sizes k s bucket count h long first = record { keys = h.keys; given = h.given; lowest = lowest_over sizes h.keys k s bucket count h.sizes_are long first }

-- the number of one bucket
pub gave_count : (Gave : List (ℕ × List ℕ) → Type 0) (sizes : List ℕ) (k s j : ℕ) → GaveSizes Gave sizes k s → j < k → GaveCount Gave k s j (get_or sizes j 0)
gave_count Gave sizes k s j h low = record { keys = h.keys; given = h.given; count_is = h.sizes_are j low }

-- that of the bucket that got one key more
pub gave_one : (Gave Now : List (ℕ × List ℕ) → Type 0) (sizes : List ℕ) (k s b n : ℕ) → GaveSizes Gave sizes k s → ((before : List (ℕ × List ℕ)) → Gave before → GaveNext Now before k s b) → b < length sizes → b < k → n ≡ get_or sizes b 0 + 1 → GaveCount Now k s b n
gave_one Gave Now sizes k s b n h next low within is =
    let more = gave_next Gave Now sizes k s b n h next low is in
    record { keys = more.keys; given = more.given; count_is = sym (get_or-set_at sizes b b n 0 refl low) ∙ more.sizes_are b within }

-- the same numbers again
pub gave_same : (Gave : List (ℕ × List ℕ) → Type 0) (sizes now : List ℕ) (k s : ℕ) → GaveSizes Gave now k s → ((j : ℕ) → j < k → get_or now j 0 ≡ get_or sizes j 0) → GaveSizes Gave sizes k s
gave_same Gave sizes now k s h same = record { keys = h.keys; given = h.given; sizes_are = λ j low. sym (same j low) ∙ h.sizes_are j low }
