-- Lemmas about a part of a file that is in memory, which the proofs of readers cite. No contract needs them.
use Rattle.std.proofs.Common.{◌≡◌, ◌∙◌, ℕ, ◌+◌, ◌-◌, ◌≤◌, List, length, take, drop, ap, sym, subst, arith, length-drop, length-take, min}
use Rattle.std.proofs.lemmas.List.{drop-drop, drop-take, take_all}
use Rattle.cm_dump_items.specs.Reading.{Fills, IsPart}

-- what is left of a part after its first bytes
pub part_after : (bytes part : List ℕ) (at room k : ℕ) → IsPart bytes at room part → k ≤ length part → IsPart bytes (at + k) (room - k) (drop k part)
part_after bytes part at room k is inside =
    let long : length (drop k part) ≡ length part - k = length-drop k part in
    let split : k + (length part - k) ≡ length part = omega (arith, inside) in
    let given : drop k part ≡ take (length part - k) (drop (at + k) bytes) =
    ap (λ (l : List ℕ). drop k l) (is.given ∙ ap (λ (n : ℕ). take n (drop at bytes)) (sym split))
    ∙ drop-take k (length part - k) (drop at bytes)
    ∙ ap (λ (l : List ℕ). take (length part - k) l) (drop-drop k at bytes) in
    record {
      given = given ∙ ap (λ (n : ℕ). take n (drop (at + k) bytes)) (sym long);
      inside = omega (arith, is.inside, long, inside);
      end = λ short. omega (arith, is.end (omega (arith, short, long, inside)), long, inside);
    }

pub part_slice : (bytes part : List ℕ) (at room k : ℕ) → IsPart bytes at room part → k ≤ length part → IsPart bytes (at + k) (room - k) (take (length part - k) (drop k part))
part_slice bytes part at room k is inside =
    let all : take (length part - k) (drop k part) ≡ drop k part = take_all (length part - k) (drop k part) (omega (arith, length-drop k part)) in
    subst (IsPart bytes (at + k) (room - k)) (sym all) (part_after bytes part at room k is inside)

-- the same of a part from the start on
pub part_from : (bytes part : List ℕ) (room k : ℕ) → IsPart bytes 0 room part → k ≤ length part → IsPart bytes k (room - k) (take (length part - k) (drop k part))
part_from bytes part room k is inside =
    let here : 0 + k ≡ k = omega arith in
    subst (λ (n : ℕ). IsPart bytes n (room - k) (take (length part - k) (drop k part))) here (part_slice bytes part 0 room k is inside)

-- all bytes are a part from the start on
pub part_whole : (bytes : List ℕ) (room : ℕ) → IsPart bytes 0 room bytes
part_whole bytes room = record {
  given = sym (take_all (length bytes) bytes (omega arith));
  inside = omega arith;
  end = λ short. omega arith;
}

-- and so are the first of them
pub part_front : (bytes : List ℕ) (room : ℕ) → IsPart bytes 0 room (take (min (length bytes) room) bytes)
part_front bytes room =
    let size : length (take (min (length bytes) room) bytes) ≡ min (length bytes) room = omega (arith, length-take (min (length bytes) room) bytes) in
    record {
      given = ap (λ (n : ℕ). take n bytes) (sym size);
      inside = omega (arith, size);
      end = λ short. omega (arith, short, size);
    }

-- and those from an offset on are one, whatever room there is
pub part_rest : (bytes : List ℕ) (at room : ℕ) → at ≤ length bytes → IsPart bytes at room (take (length bytes - at) (drop at bytes))
part_rest bytes at room inside =
    let size : (room + at) - at ≡ room = omega arith in
    subst (λ (n : ℕ). IsPart bytes at n (take (length bytes - at) (drop at bytes))) size (part_from bytes bytes (room + at) at (part_whole bytes (room + at)) inside)

-- what a buffer got is a part
pub part_filled : (bytes buf : List ℕ) (at room got : ℕ) → length buf ≡ room → Fills bytes at got buf → got ≤ room → at + got ≤ length bytes → IsPart bytes at room (take got buf)
part_filled bytes buf at room got whole fills few inside =
    let size : length (take got buf) ≡ got = omega (arith, length-take got buf, few, whole) in
    record {
      given = fills.given ∙ ap (λ (n : ℕ). take n (drop at bytes)) (sym size);
      inside = omega (arith, size, inside);
      end = λ short. omega (arith, fills.end (omega (arith, short, size, whole)), size);
    }
