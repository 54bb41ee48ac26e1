-- Pieces of a list of bytes that a rule gives by their places.
use Rattle.std.proofs.Common.{◌≡◌, ◌∙◌, ℕ, zero, suc, ◌+◌, ◌-◌, ◌≤◌, List, ◌∷◌, ◌++◌, length, map, take, refl, ap, arith, Option, Result}
use Rattle.std.specs.Prelude.{IsErr}
use Rattle.std.specs.List.{range_with_len}
use Rattle.std.proofs.lemmas.List.FromFn.{length-map-range_with_len}
use Rattle.cm_io.specs.declared.fault.Failed.{Failed}
use Rattle.cm_io.specs.Writing.{Writes, then_bytes}
use Rattle.cm_dump_images.specs.WritingLaws.{more_stopped, more_wrote}

pub piece_len : (f : ℕ → ℕ) (xs : List ℕ) (a n : ℕ) → xs ≡ map f (range_with_len a n) → length xs ≡ n
piece_len f xs a n is = ap length is ∙ length-map-range_with_len f a n

-- two pieces in a row
pub two_pieces : (f : ℕ → ℕ) (a n k : ℕ) → map f (range_with_len a n) ++ map f (range_with_len (a + n) k) ≡ map f (range_with_len a (n + k))
two_pieces f a zero k = let z : a + 0 ≡ a = omega arith in let y : 0 + k ≡ k = omega arith in rw (z, y) refl
two_pieces f a (suc n) k =
    let z : a + suc n ≡ a + 1 + n = omega arith in
    let y : suc n + k ≡ suc (n + k) = omega arith in
    rw (z, y) (ap (λ (xs : List ℕ). f a ∷ xs) (two_pieces f (a + 1) n k))

-- a piece more went through
pub piece_wrote : (f : ℕ → ℕ) (old mid new : Option (List ℕ)) (at k : ℕ) → mid ≡ then_bytes old (map f (range_with_len 0 at)) → new ≡ then_bytes mid (map f (range_with_len at k)) → new ≡ then_bytes old (map f (range_with_len 0 (at + k)))
piece_wrote f old mid new at k before now =
    more_wrote old mid new (map f (range_with_len 0 at)) (map f (range_with_len at k)) _ (let z : 0 + at ≡ at = omega arith in rw z at (two_pieces f 0 at k)) before now

-- a piece failed
pub piece_stopped : (f : ℕ → ℕ) (old mid new : Option (List ℕ)) (at k len : ℕ) (result : Result (Unit {0}) Failed) → at + k ≤ len → IsErr result → mid ≡ then_bytes old (map f (range_with_len 0 at))
    → ((n : ℕ) × (new ≡ then_bytes mid (take n (map f (range_with_len at k))))) → Writes old new (map f (range_with_len 0 len)) result
piece_stopped f old mid new at k len result within failed before now =
    let first : map f (range_with_len at k) ++ map f (range_with_len (at + k) (len - at - k)) ≡ map f (range_with_len at (len - at)) = let e : k + (len - at - k) ≡ len - at = omega arith in rw e at (two_pieces f at k (len - at - k)) in
    let whole : map f (range_with_len 0 at) ++ map f (range_with_len at (len - at)) ≡ map f (range_with_len 0 len) = let z : 0 + at ≡ at = omega arith in let e : at + (len - at) ≡ len = omega arith in rw (z, e) at (two_pieces f 0 at (len - at)) in
    more_stopped old mid new (map f (range_with_len 0 at)) (map f (range_with_len at k)) (map f (range_with_len (at + k) (len - at - k))) _ result (ap (λ (ys : List ℕ). map f (range_with_len 0 at) ++ ys) first ∙ whole) failed before now
