-- Keys that are taken together, and those of them that wait.
use Rattle.std.proofs.Common.{◌≡◌, ◌∙◌, ℕ, ◌+◌, ◌-◌, ◌<◌, ◌≤◌, List, [], ◌∷◌, ◌++◌, length, map, take, drop, get_or, refl, ap, sym, arith, append_assoc, length-append, length-drop, add-zero}
use Rattle.std.specs.Prelude.{All}
use Rattle.std.proofs.lemmas.List.{drop-append-le, get_or-drop, map-append, take_all, take_more, take-append-le}
use Rattle.std.proofs.lemmas.List.Elements.{All-head, All-tail}
use Rattle.std.proofs.Math.Seq.{drop-append_seam}
use Rattle.cm_query_batch.specs.Waiting.{StandsIn, key_in}
use Rattle.cm_query_batch.specs.declared.taken.Spot.{Spot}

-- with more bytes behind, the keys are the same
keys_kept : (bytes more : List ℕ) (items : List Spot) → All (StandsIn bytes) items → map (key_in (bytes ++ more)) items ≡ map (key_in bytes) items
keys_kept bytes more [] all = refl
keys_kept bytes more (s ∷ ss) all =
    let here : StandsIn bytes s = All-head (StandsIn bytes) s ss all in
    let n = s.until - s.from in
    let enough : n ≤ length (drop s.from bytes) = omega (arith, here.0, here.1, length-drop s.from bytes) in
    let from : drop s.from (bytes ++ more) ≡ drop s.from bytes ++ more = drop-append-le s.from bytes more (omega (arith, here.0, here.1)) in
    let same : take n (drop s.from (bytes ++ more)) ≡ take n (drop s.from bytes) = ap (λ (l : List ℕ). take n l) from ∙ take-append-le n (drop s.from bytes) more enough in
    ap (λ (l : List ℕ). (s.line, l) ∷ map (key_in (bytes ++ more)) ss) same
    ∙ ap (λ (l : List (ℕ × List ℕ)). key_in bytes s ∷ l) (keys_kept bytes more ss (All-tail (StandsIn bytes) s ss all))

-- the bytes behind others
behind : (bytes key : List ℕ) (from until : ℕ) → from ≡ length bytes → until ≡ length (bytes ++ key) → take (until - from) (drop from (bytes ++ key)) ≡ key
behind bytes key from until is ends =
    ap (λ (i : ℕ). take (until - from) (drop i (bytes ++ key))) is
    ∙ ap (λ (l : List ℕ). take (until - from) l) (drop-append_seam bytes key)
    ∙ take_all (until - from) key (omega (arith, is, ends, length-append bytes key))

-- one key more
pub key_more : (bytes key bytes' : List ℕ) (items items' : List Spot) (s : Spot) → All (StandsIn bytes) items → bytes' ≡ bytes ++ key → items' ≡ items ++ s ∷ [] → s.from ≡ length bytes → s.until ≡ length bytes'
    → map (key_in bytes') items' ≡ map (key_in bytes) items ++ (s.line, key) ∷ []
key_more bytes key bytes' items items' s all grown more from until =
    let last : take (s.until - s.from) (drop s.from (bytes ++ key)) ≡ key = behind bytes key s.from s.until from (until ∙ ap length grown) in
    ap (λ (b : List ℕ). map (key_in b) items') grown
    ∙ ap (map (key_in (bytes ++ key))) more
    ∙ map-append (key_in (bytes ++ key)) items (s ∷ [])
    ∙ ap (λ (l : List (ℕ × List ℕ)). l ++ key_in (bytes ++ key) s ∷ []) (keys_kept bytes key items all)
    ∙ ap (λ (l : List ℕ). map (key_in bytes) items ++ (s.line, l) ∷ []) last

-- the key that waits longest
pub first_waiting : (keys : List (ℕ × List ℕ)) (next : ℕ) (d : ℕ × List ℕ) → get_or (drop next keys) 0 d ≡ get_or keys next d
first_waiting keys next d = get_or-drop next keys 0 d ∙ ap (λ (i : ℕ). get_or keys i d) (add-zero next)

-- one more of a list
pub one_more : {X Y : Type 0} (f : X → Y) (xs : List X) (i : ℕ) (d : X) → i < length xs → map f (take i xs) ++ f (get_or xs i d) ∷ [] ≡ map f (take (i + 1) xs)
one_more f xs i d inside = sym (ap (map f) (take_more xs i d inside) ∙ map-append f (take i xs) (get_or xs i d ∷ []))

-- the same before others
one_and_others : {X Y : Type 0} (f : X → Y) (xs : List X) (i j : ℕ) (d : X) (others : List Y) → j ≡ i + 1 → i < length xs → map f (take i xs) ++ f (get_or xs i d) ∷ others ≡ map f (take j xs) ++ others
one_and_others {Y = Y} f xs i j d others next inside =
    sym (append_assoc (map f (take i xs)) (f (get_or xs i d) ∷ []) others) ∙ ap (λ (l : List Y). l ++ others) (one_more f xs i d inside) ∙ ap (λ n. map f (take n xs) ++ others) (sym next)

-- four more of a list
pub four_more : {X Y : Type 0} (f : X → Y) (xs : List X) (i j : ℕ) (d : X) → j ≡ i + 4 → j ≤ length xs
    → map f (take i xs) ++ f (get_or xs i d) ∷ f (get_or xs (i + 1) d) ∷ f (get_or xs (i + 2) d) ∷ f (get_or xs (i + 3) d) ∷ [] ≡ map f (take j xs)
four_more f xs i j d next inside =
    one_and_others f xs i (i + 1) d _ refl (omega (arith, next, inside))
    ∙ one_and_others f xs (i + 1) (i + 2) d _ (omega arith) (omega (arith, next, inside))
    ∙ one_and_others f xs (i + 2) (i + 3) d _ (omega arith) (omega (arith, next, inside))
    ∙ one_more f xs (i + 3) d (omega (arith, next, inside))
    ∙ ap (λ n. map f (take n xs)) (let last : (i + 3) + 1 ≡ j = omega (arith, next) in last)
