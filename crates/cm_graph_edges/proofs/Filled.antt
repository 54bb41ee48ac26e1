-- Lists that are filled by a loop.
use Rattle.std.proofs.Common.{◌≡◌, ℕ, suc, ◌+◌, ◌<◌, List, [], ◌∷◌, ◌++◌, length, get_or, set, take, map, sym, ap, ◌∙◌, arith}
use Rattle.std.proofs.Math.Seq.{take-suc-set}
use Rattle.std.proofs.lemmas.List.{take_more, map-append}

-- one more element of a list that is filled with the values of a function
pub filled_more : {X Y : Type 0} (f : X → Y) (xs : List X) (now : List Y) (i : ℕ) (d : X) (y : Y) → i < length xs → length now ≡ length xs → y ≡ f (get_or xs i d) → take i now ≡ map f (take i xs) → take (i + 1) (set now i y) ≡ map f (take (i + 1) xs)
filled_more f xs now i d y h long is was =
    let s : i + 1 ≡ suc i = omega arith in
    ap (λ k. take k (set now i y)) s ∙ (take-suc-set now i y (omega arith) ∙ (ap (λ ys. ys ++ y ∷ []) was ∙ (ap (λ z. map f (take i xs) ++ z ∷ []) is ∙ (sym (map-append f (take i xs) (get_or xs i d ∷ [])) ∙ ap (map f) (sym (take_more xs i d h))))))
