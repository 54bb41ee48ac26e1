-- What is computed of the first elements of a list, one or four at a time.
use Rattle.std.proofs.Common.{◌≡◌, ◌∙◌, ℕ, ◌+◌, ◌<◌, ◌≤◌, List, [], ◌∷◌, ◌++◌, length, map, take, get_or, refl, ap, sym, arith, append_assoc}
use Rattle.std.proofs.lemmas.List.{map-append, take_more}

-- one more of a list
pub one_more : {X Y : Type 0} (f : X → Y) (xs : List X) (i : ℕ) (d : X) → i < length xs → map f (take i xs) ++ f (get_or xs i d) ∷ [] ≡ map f (take (i + 1) xs)
one_more f xs i d inside = sym (ap (map f) (take_more xs i d inside) ∙ map-append f (take i xs) (get_or xs i d ∷ []))

-- the same before others
one_and_others : {X Y : Type 0} (f : X → Y) (xs : List X) (i j : ℕ) (d : X) (others : List Y) → j ≡ i + 1 → i < length xs → map f (take i xs) ++ f (get_or xs i d) ∷ others ≡ map f (take j xs) ++ others
one_and_others {Y = Y} f xs i j d others next inside =
    sym (append_assoc (map f (take i xs)) (f (get_or xs i d) ∷ []) others) ∙ ap (λ (l : List Y). l ++ others) (one_more f xs i d inside) ∙ ap (λ n. map f (take n xs) ++ others) (sym next)

-- four more of a list
pub four_more : {X Y : Type 0} (f : X → Y) (xs : List X) (i j : ℕ) (d : X) → j ≡ i + 4 → j ≤ length xs
    → map f (take i xs) ++ f (get_or xs i d) ∷ f (get_or xs (i + 1) d) ∷ f (get_or xs (i + 2) d) ∷ f (get_or xs (i + 3) d) ∷ [] ≡ map f (take j xs)
four_more f xs i j d next inside =
    one_and_others f xs i (i + 1) d _ refl (omega (arith, next, inside))
    ∙ one_and_others f xs (i + 1) (i + 2) d _ (omega arith) (omega (arith, next, inside))
    ∙ one_and_others f xs (i + 2) (i + 3) d _ (omega arith) (omega (arith, next, inside))
    ∙ one_more f xs (i + 3) d (omega (arith, next, inside))
    ∙ ap (λ n. map f (take n xs)) (let last : (i + 3) + 1 ≡ j = omega (arith, next) in last)
