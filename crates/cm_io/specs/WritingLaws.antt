-- Lemmas about writes one after another.
use Rattle.std.specs.Prelude.{◌≡◌, ℕ, ◌+◌, ◌≤◌, min, List, [], ◌∷◌, ◌++◌, length, take, Option, None, Some, Result, Ok, Err, IsErr, refl}
use Rattle.std.proofs.Common.{◌∙◌, ap, sym, subst, arith, append_assoc, append-nil}
use Rattle.std.proofs.lemmas.Bool.{false≢true}
use Rattle.std.proofs.lemmas.List.{take-append-le, take_min}
use Rattle.std.proofs.Math.Seq.{take-append-add}
use Rattle.cm_io.specs.declared.fault.Failed.{Failed}
use Rattle.cm_io.specs.Writing.{Writes, joined, then_bytes}

-- no byte more
pub then_nothing : (known : Option (List ℕ)) → known ≡ then_bytes known []
then_nothing None = refl
then_nothing (Some w) = ap (λ (l : List ℕ). let o : Option (List ℕ) = Some l in o) (sym (append-nil w))

pub then_twice : (known : Option (List ℕ)) (xs ys : List ℕ) → then_bytes (then_bytes known xs) ys ≡ then_bytes known (xs ++ ys)
then_twice None xs ys = refl
then_twice (Some w) xs ys = ap Some (append_assoc w xs ys)

-- A prefix of a later piece is one of the whole.
pub later_front : (a b c : Option (List ℕ)) (xs ys : List ℕ) (n : ℕ) → b ≡ then_bytes a xs → c ≡ then_bytes b (take n ys) → c ≡ then_bytes a (take (length xs + n) (xs ++ ys))
later_front a b c xs ys n first next = next ∙ ap (λ (w : Option (List ℕ)). then_bytes w (take n ys)) first ∙ then_twice a xs (take n ys) ∙ ap (then_bytes a) (sym (take-append-add xs ys n))

-- A first piece that went through, and then a second one.
pub writes_then : (a b c : Option (List ℕ)) (xs ys : List ℕ) (result : Result (Unit {0}) Failed) → b ≡ then_bytes a xs → Writes b c ys result → Writes a c (xs ++ ys) result
writes_then a b c xs ys (Ok _) first next = next ∙ ap (λ (w : Option (List ℕ)). then_bytes w ys) first ∙ then_twice a xs ys
writes_then a b c xs ys (Err _) first next = (length xs + next.0, later_front a b c xs ys next.0 first next.1)

-- a piece, and then an empty one
pub writes_nothing : (a b c : Option (List ℕ)) (text : List ℕ) (result : Result (Unit {0}) Failed) → b ≡ then_bytes a text → Writes b c [] result → Writes a c text result
writes_nothing a b c text result first next = subst (λ (t : List ℕ). Writes a c t result) (append-nil text) (writes_then a b c text [] result first next)

-- A first piece that failed: what was taken of it is a prefix of the whole.
pub front_of_first : (a b : Option (List ℕ)) (xs ys : List ℕ) (n : ℕ) → b ≡ then_bytes a (take n xs) → (m : ℕ) × (b ≡ then_bytes a (take m (xs ++ ys)))
front_of_first a b xs ys n is =
    let m = min n (length xs) in
    let inside : m ≤ length xs = omega arith in
    (m, is ∙ ap (then_bytes a) (sym (take_min n xs) ∙ sym (take-append-le m xs ys inside)))

pub writes_front : (a b : Option (List ℕ)) (text : List ℕ) (result : Result (Unit {0}) Failed) → IsErr result → ((n : ℕ) × (b ≡ then_bytes a (take n text))) → Writes a b text result
writes_front a b text (Ok _) is front = absurd (false≢true is)
writes_front a b text (Err _) is front = front

pub joined-append : (xs ys : List (List ℕ)) → joined (xs ++ ys) ≡ joined xs ++ joined ys
joined-append [] ys = refl
joined-append (x ∷ xs) ys = ap (λ (zs : List ℕ). x ++ zs) (joined-append xs ys) ∙ sym (append_assoc x (joined xs) (joined ys))
