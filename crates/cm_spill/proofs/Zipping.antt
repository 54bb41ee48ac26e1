-- Two lists, place by place.
use Rattle.std.proofs.Common.{◌≡◌, ℕ, zero, suc, ◌<◌, List, [], ◌∷◌, ◌++◌, length, get_or, set, refl, arith}
use Rattle.std.specs.List.{AllZip}

pub zip_at : {A B : Type 0} (R : A → B → Type 0) (xs : List A) (ys : List B) (i : ℕ) (d : A) (e : B) → AllZip R xs ys → i < length xs → R (get_or xs i d) (get_or ys i e)
zip_at R [] [] i d e all inside = absurd (omega (arith, inside))
zip_at R [] (y ∷ ys) i d e all inside = absurd all
zip_at R (x ∷ xs) [] i d e all inside = absurd all
zip_at R (x ∷ xs) (y ∷ ys) zero d e all inside = all.0
zip_at R (x ∷ xs) (y ∷ ys) (suc i) d e all inside = zip_at R xs ys i d e all.1 (omega (arith, inside))

-- one of the first is another
pub zip_set : {A B : Type 0} (R : A → B → Type 0) (xs : List A) (ys : List B) (i : ℕ) (x' : A) (e : B) → AllZip R xs ys → R x' (get_or ys i e) → AllZip R (set xs i x') ys
zip_set R [] [] i x' e all r = all
zip_set R [] (y ∷ ys) i x' e all r = absurd all
zip_set R (x ∷ xs) [] i x' e all r = absurd all
zip_set R (x ∷ xs) (y ∷ ys) zero x' e all r = (r, all.1)
zip_set R (x ∷ xs) (y ∷ ys) (suc i) x' e all r = (all.0, zip_set R xs ys i x' e all.1 r)

pub zip_append : {A B : Type 0} (R : A → B → Type 0) (xs us : List A) (ys vs : List B) → AllZip R xs ys → AllZip R us vs → AllZip R (xs ++ us) (ys ++ vs)
zip_append R [] us [] vs all more = more
zip_append R [] us (y ∷ ys) vs all more = absurd all
zip_append R (x ∷ xs) us [] vs all more = absurd all
zip_append R (x ∷ xs) us (y ∷ ys) vs all more = (all.0, zip_append R xs us ys vs all.1 more)

pub zip_map : {A B : Type 0} (R S : A → B → Type 0) (xs : List A) (ys : List B) → ((x : A) (y : B) → R x y → S x y) → AllZip R xs ys → AllZip S xs ys
zip_map R S [] [] f all = all
zip_map R S [] (y ∷ ys) f all = absurd all
zip_map R S (x ∷ xs) [] f all = absurd all
zip_map R S (x ∷ xs) (y ∷ ys) f all = (f x y all.0, zip_map R S xs ys f all.1)

pub zip_long : {A B : Type 0} (R : A → B → Type 0) (xs : List A) (ys : List B) → AllZip R xs ys → length ys ≡ length xs
zip_long R [] [] all = refl
zip_long R [] (y ∷ ys) all = absurd all
zip_long R (x ∷ xs) [] all = absurd all
zip_long R (x ∷ xs) (y ∷ ys) all = omega (arith, zip_long R xs ys all.1)

-- one of each is another
pub zip_both : {A B : Type 0} (R : A → B → Type 0) (xs : List A) (ys : List B) (i : ℕ) (x' : A) (y' : B) → AllZip R xs ys → R x' y' → AllZip R (set xs i x') (set ys i y')
zip_both R [] [] i x' y' all r = all
zip_both R [] (y ∷ ys) i x' y' all r = absurd all
zip_both R (x ∷ xs) [] i x' y' all r = absurd all
zip_both R (x ∷ xs) (y ∷ ys) zero x' y' all r = (r, all.1)
zip_both R (x ∷ xs) (y ∷ ys) (suc i) x' y' all r = (all.0, zip_both R xs ys i x' y' all.1 r)
