-- Keys whose bytes stand one behind another.
use Rattle.std.proofs.Common.{◌≡◌, ◌∙◌, ℕ, ◌+◌, ◌-◌, ◌<◌, ◌≤◌, List, ◌∷◌, ◌++◌, length, map, take, drop, get_or, ap, arith, length-append, length-drop}
use Rattle.std.proofs.Math.Seq.{drop-append_seam}
use Rattle.std.proofs.lemmas.List.{drop-append-le, drop_more, get_or-map, length-map, take-append-le, take_all}

-- with more bytes behind, those at a place are the same
pub bytes_kept : (bytes more : List ℕ) (from until : ℕ) → from ≤ until → until ≤ length bytes → take (until - from) (drop from (bytes ++ more)) ≡ take (until - from) (drop from bytes)
bytes_kept bytes more from until order inside =
    let n = until - from in
    let enough : n ≤ length (drop from bytes) = omega (arith, order, inside, length-drop from bytes) in
    ap (λ (l : List ℕ). take n l) (drop-append-le from bytes more (omega (arith, order, inside))) ∙ take-append-le n (drop from bytes) more enough

-- the bytes behind others
pub behind : (bytes key : List ℕ) (from until : ℕ) → from ≡ length bytes → until ≡ length (bytes ++ key) → take (until - from) (drop from (bytes ++ key)) ≡ key
behind bytes key from until is ends =
    ap (λ (i : ℕ). take (until - from) (drop i (bytes ++ key))) is
    ∙ ap (λ (l : List ℕ). take (until - from) l) (drop-append_seam bytes key)
    ∙ take_all (until - from) key (omega (arith, is, ends, length-append bytes key))

-- what f gives of the elements from a place on
pub first_ahead : {X Y : Type 0} (f : X → Y) (xs : List X) (i : ℕ) (d : X) → i < length xs → drop i (map f xs) ≡ f (get_or xs i d) ∷ drop (i + 1) (map f xs)
first_ahead {Y = Y} f xs i d inside =
    let within : i < length (map f xs) = omega (arith, inside, length-map xs f) in
    drop_more (map f xs) i (f d) within ∙ ap (λ (y : Y). y ∷ drop (i + 1) (map f xs)) (get_or-map f xs i d (f d) inside)
