-- The lines of some items, written one after another.
use Rattle.std.proofs.Common.{◌≡◌, ◌∙◌, ℕ, ◌+◌, ◌<◌, List, ◌∷◌, [], ◌++◌, length, take, drop, get_or, map, ap, sym, append_assoc, append-nil, Option, Result}
use Rattle.std.proofs.lemmas.List.{map-append, take-append-drop, take_more}
use Rattle.std.specs.Prelude.{IsErr}
use Rattle.cm_io.specs.declared.fault.Failed.{Failed}
use Rattle.cm_io.specs.Writing.{Writes, joined, then_bytes}
use Rattle.cm_io.specs.WritingLaws.{then_twice, writes_then, front_of_first, writes_front, joined-append}

-- the lines of some items and then of others
lines-append : {X : Type 0} (f : X → List ℕ) (xs ys : List X) → joined (map f (xs ++ ys)) ≡ joined (map f xs) ++ joined (map f ys)
lines-append f xs ys = ap joined (map-append f xs ys) ∙ joined-append (map f xs) (map f ys)

-- the line of one item more
lines_more : {X : Type 0} (f : X → List ℕ) (xs : List X) (i : ℕ) (d : X) → i < length xs → joined (map f (take (i + 1) xs)) ≡ joined (map f (take i xs)) ++ f (get_or xs i d)
lines_more f xs i d inside =
    ap (λ ys. joined (map f ys)) (take_more xs i d inside)
    ∙ lines-append f (take i xs) (get_or xs i d ∷ [])
    ∙ ap (λ (zs : List ℕ). joined (map f (take i xs)) ++ zs) (append-nil (f (get_or xs i d)))

-- the first lines and the others
lines_split : {X : Type 0} (f : X → List ℕ) (xs : List X) (i : ℕ) → joined (map f xs) ≡ joined (map f (take i xs)) ++ joined (map f (drop i xs))
lines_split f xs i = ap (λ ys. joined (map f ys)) (sym (take-append-drop i xs)) ∙ lines-append f (take i xs) (drop i xs)

-- After some lines the next one went through.
pub line_written : {X : Type 0} (f : X → List ℕ) (a b c : Option (List ℕ)) (xs : List X) (i : ℕ) (d : X) → i < length xs → b ≡ then_bytes a (joined (map f (take i xs))) → c ≡ then_bytes b (f (get_or xs i d))
    → c ≡ then_bytes a (joined (map f (take (i + 1) xs)))
line_written f a b c xs i d inside so_far next =
    next ∙ ap (λ (w : Option (List ℕ)). then_bytes w (f (get_or xs i d))) so_far ∙ then_twice a (joined (map f (take i xs))) (f (get_or xs i d))
    ∙ ap (then_bytes a) (sym (lines_more f xs i d inside))

-- A prefix of a text is one of the text with more.
pub first_failed : (a b : Option (List ℕ)) (xs more : List ℕ) (result : Result (Unit {0}) Failed) → IsErr result → ((n : ℕ) × (b ≡ then_bytes a (take n xs))) → Writes a b (xs ++ more) result
first_failed a b xs more result is next = writes_front a b (xs ++ more) result is (front_of_first a b xs more next.0 next.1)

-- A text went through and then a prefix of another.
pub part_failed : (a b c : Option (List ℕ)) (xs ys more : List ℕ) (result : Result (Unit {0}) Failed) → IsErr result → b ≡ then_bytes a xs → ((n : ℕ) × (c ≡ then_bytes b (take n ys)))
    → Writes a c (xs ++ (ys ++ more)) result
part_failed a b c xs ys more result is before next = writes_then a b c xs (ys ++ more) result before (first_failed b c ys more result is next)

-- After some lines the next one failed.
pub line_failed : {X : Type 0} (f : X → List ℕ) (a b c : Option (List ℕ)) (xs : List X) (i : ℕ) (d : X) (result : Result (Unit {0}) Failed) → i < length xs → IsErr result
    → b ≡ then_bytes a (joined (map f (take i xs))) → ((n : ℕ) × (c ≡ then_bytes b (take n (f (get_or xs i d))))) → Writes a c (joined (map f xs)) result
line_failed f a b c xs i d result inside is so_far next =
    let before = joined (map f (take i xs)) in
    let line = f (get_or xs i d) in
    let rest = joined (map f (drop (i + 1) xs)) in
    let whole : before ++ (line ++ rest) ≡ joined (map f xs) =
    sym (append_assoc before line rest) ∙ ap (λ (text : List ℕ). text ++ rest) (sym (lines_more f xs i d inside)) ∙ sym (lines_split f xs (i + 1)) in
    rw whole at (part_failed a b c before line rest result is so_far next)
