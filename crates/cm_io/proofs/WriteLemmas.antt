-- Pieces that are written one after another.
use Rattle.std.proofs.Common.{◌≡◌, ◌∙◌, ℕ, ◌+◌, ◌<◌, List, ◌∷◌, [], ◌++◌, length, take, drop, get_or, map, ap, sym, append-nil, Option, Result}
use Rattle.std.proofs.lemmas.List.{map-append, take-append-drop, take_more}
use Rattle.std.specs.Prelude.{IsErr}
use Rattle.std.specs.Borrow.{Bor}
use Rattle.cm_io.specs.declared.fault.Failed.{Failed}
use Rattle.cm_io.specs.Writing.{Writes, joined, then_bytes}
use Rattle.cm_io.specs.WritingLaws.{then_twice, later_front, front_of_first, writes_front, joined-append}

-- the pieces behind references
abbrev pub texts : List (Bor (List ℕ)) → List (List ℕ)
texts = map (λ piece. piece.now)

-- one piece more
pub joined_more : (xs : List (Bor (List ℕ))) (i : ℕ) (d : Bor (List ℕ)) → i < length xs → joined (texts (take (i + 1) xs)) ≡ joined (texts (take i xs)) ++ (get_or xs i d).now
joined_more xs i d inside =
    ap (λ (ys : List (Bor (List ℕ))). joined (texts ys)) (take_more xs i d inside)
    ∙ ap joined (map-append (λ (piece : Bor (List ℕ)). piece.now) (take i xs) (get_or xs i d ∷ []))
    ∙ joined-append (texts (take i xs)) (texts (get_or xs i d ∷ []))
    ∙ ap (λ (zs : List ℕ). joined (texts (take i xs)) ++ zs) (append-nil (get_or xs i d).now)

-- the first pieces and the others
pub joined_split : (xs : List (Bor (List ℕ))) (i : ℕ) → joined (texts xs) ≡ joined (texts (take i xs)) ++ joined (texts (drop i xs))
joined_split xs i =
    ap (λ (ys : List (Bor (List ℕ))). joined (texts ys)) (sym (take-append-drop i xs))
    ∙ ap joined (map-append (λ (piece : Bor (List ℕ)). piece.now) (take i xs) (drop i xs))
    ∙ joined-append (texts (take i xs)) (texts (drop i xs))

-- After some pieces the next one went through.
pub piece_written : (a b c : Option (List ℕ)) (pieces : List (Bor (List ℕ))) (i : ℕ) (d : Bor (List ℕ)) → i < length pieces → b ≡ then_bytes a (joined (texts (take i pieces))) → c ≡ then_bytes b (get_or pieces i d).now
    → c ≡ then_bytes a (joined (texts (take (i + 1) pieces)))
piece_written a b c pieces i d inside so_far next =
    next ∙ ap (λ (w : Option (List ℕ)). then_bytes w (get_or pieces i d).now) so_far ∙ then_twice a (joined (texts (take i pieces))) (get_or pieces i d).now
    ∙ ap (then_bytes a) (sym (joined_more pieces i d inside))

-- After some pieces the next one failed.
pub piece_failed : (a b c : Option (List ℕ)) (pieces : List (Bor (List ℕ))) (i : ℕ) (d : Bor (List ℕ)) (result : Result (Unit {0}) Failed) → i < length pieces → IsErr result
    → b ≡ then_bytes a (joined (texts (take i pieces))) → ((n : ℕ) × (c ≡ then_bytes b (take n (get_or pieces i d).now))) → Writes a c (joined (texts pieces)) result
piece_failed a b c pieces i d result inside is so_far next =
    let before = joined (texts (take i pieces)) in
    let rest = joined (texts (drop (i + 1) pieces)) in
    let taken = later_front a b c before (get_or pieces i d).now next.0 so_far next.1 in
    let whole : (before ++ (get_or pieces i d).now) ++ rest ≡ joined (texts pieces) =
    ap (λ (text : List ℕ). text ++ rest) (sym (joined_more pieces i d inside)) ∙ sym (joined_split pieces (i + 1)) in
    let front = front_of_first a c (before ++ (get_or pieces i d).now) rest (length before + next.0) taken in
    writes_front a c (joined (texts pieces)) result is (front.0, front.1 ∙ ap (λ (text : List ℕ). then_bytes a (take front.0 text)) whole)
