-- Lines of generated keys within their text.
use Rattle.std.proofs.Common.{◌≡◌, ◌∙◌, ℕ, zero, suc, ◌+◌, ◌-◌, ◌*◌, ◌<◌, ◌≤◌, min, List, [], ◌++◌, length, take, drop, refl, sym, ap, subst, arith, append_assoc, length-append, length-take, length-take-le, length-drop, take-append-drop, inl, inr}
use Rattle.std.proofs.Math.Seq.{drop-append-add, take-add, take-append-add}
use Rattle.std.proofs.Math.Nat.{eq-or-lt_of_le}
use Rattle.std.proofs.lemmas.List.{drop-append-le, drop-drop, take-append-le, take_at}
use Rattle.cm_io.specs.Reading.{Gives}
use Rattle.cm_keys_made.specs.Texts.{made_line, made_text}

pub length-text : (n : ℕ) → length (made_text n) ≡ 15 * n
unfolding made_text
length-text zero = refl
length-text (suc n) = length-append (made_text n) (made_line n) ∙ omega (arith, length-text n)

-- a line at the end of the text
last_line : (n i : ℕ) → i ≡ n → made_text n ++ made_line n ≡ made_text i ++ (made_line i ++ [])
last_line n i is = subst (λ (k : ℕ). made_text n ++ made_line n ≡ made_text k ++ (made_line k ++ [])) (sym is) refl

-- a line with a further one after its text
line_before : (n i : ℕ) (rest : List ℕ) → made_text n ≡ made_text i ++ (made_line i ++ rest)
    → made_text n ++ made_line n ≡ made_text i ++ (made_line i ++ (rest ++ made_line n))
line_before n i rest is =
    ap (λ (l : List ℕ). l ++ made_line n) is
    ∙ append_assoc (made_text i) (made_line i ++ rest) (made_line n)
    ∙ ap (λ (l : List ℕ). made_text i ++ l) (append_assoc (made_line i) rest (made_line n))

-- the text around a line
pub around_line : (n i : ℕ) → i < n → (rest : List ℕ) × (made_text n ≡ made_text i ++ (made_line i ++ rest))
unfolding made_text
around_line zero i lt = absurd (omega (arith, lt))
around_line (suc n) i lt =
    let within : i ≤ n = omega (arith, lt) in
    elim (eq-or-lt_of_le within) [
      | inl is ↦ ([], last_line n i is)
      | inr less ↦ let r = around_line n i less in (r.0 ++ made_line n, line_before n i r.0 r.1)
    ]

-- what follows a place in a line
from_line : (n i skip : ℕ) (rest : List ℕ) → skip ≤ 15 → made_text n ≡ made_text i ++ (made_line i ++ rest)
    → drop (15 * i + skip) (made_text n) ≡ drop skip (made_line i) ++ rest
from_line n i skip rest within is =
    let len = length-text i in
    ap (λ (l : List ℕ). drop (15 * i + skip) l) is
    ∙ ap (λ (k : ℕ). drop (k + skip) (made_text i ++ (made_line i ++ rest))) (sym len)
    ∙ drop-append-add (made_text i) (made_line i ++ rest) skip
    ∙ drop-append-le skip (made_line i) rest within

-- A part of a line is a part of the text.
pub in_text : (n i skip r at : ℕ) → i < n → skip ≤ 15 → r ≤ 15 - skip → at ≡ 15 * i + skip
    → take r (drop skip (made_line i)) ≡ take r (drop at (made_text n))
in_text n i skip r at lt within fits is =
    let around = around_line n i lt in
    let there = from_line n i skip around.0 within around.1 in
    let room : r ≤ length (drop skip (made_line i)) = omega (arith, fits, length-drop skip (made_line i)) in
    sym (take-append-le r (drop skip (made_line i)) around.0 room)
    ∙ ap (λ (l : List ℕ). take r l) (sym there)
    ∙ ap (λ (k : ℕ). take r (drop k (made_text n))) (sym is)

-- a buffer in whose tail some bytes were written
pub room_after : (buf new : List ℕ) (done : ℕ) → done ≤ length buf → length new ≡ length (take (length buf - done) (drop done buf))
    → length (take done buf ++ (new ++ drop (length buf - done) (drop done buf))) ≡ length buf
room_after buf new done inside size =
    omega (
      arith,
      size,
      inside,
      length-append (take done buf) (new ++ drop (length buf - done) (drop done buf)),
      length-append new (drop (length buf - done) (drop done buf)),
      length-take done buf,
      length-drop done buf,
      length-take (length buf - done) (drop done buf),
      length-drop (length buf - done) (drop done buf),
    )

-- The buffer has a further part of the text.
pub part_more : (text buf part old tail : List ℕ) (done r : ℕ) → done ≤ length buf → take done buf ≡ take done text
    → r ≤ length part → take r part ≡ take r (drop done text)
    → take (done + r) (take done buf ++ ((take r part ++ old) ++ tail)) ≡ take (done + r) text
part_more text buf part old tail done r inside before fits same =
    let front = take done buf in
    let size : length front ≡ done = length-take-le done buf inside in
    ap (λ (k : ℕ). take (k + r) (front ++ ((take r part ++ old) ++ tail))) (sym size)
    ∙ take-append-add front ((take r part ++ old) ++ tail) r
    ∙ ap (λ (l : List ℕ). front ++ take r l) (append_assoc (take r part) old tail)
    ∙ ap (λ (l : List ℕ). front ++ l) (take_at (take r part) (old ++ tail) r (length-take-le r part fits) ∙ same)
    ∙ ap (λ (l : List ℕ). l ++ take r (drop done text)) before
    ∙ sym (take-add done r text)

-- What a read gives of a text.
pub read_gives : (bytes old : List ℕ) (place n room : ℕ) → place ≤ length bytes → n ≡ min (length bytes - place) room
    → Gives bytes place (place + n) room n (take n (drop place bytes) ++ old)
read_gives bytes old place n room within count =
    let left : length (drop place bytes) ≡ length bytes - place = length-drop place bytes in
    let size : length (take n (drop place bytes)) ≡ n = length-take n (drop place bytes) ∙ omega (arith, left, count) in
    record {
      given =
          sym (take-append-drop n (drop place bytes))
          ∙ ap (λ (l : List ℕ). take n (drop place bytes) ++ l) (drop-drop n place bytes)
          ∙ ap (λ (l : List ℕ). l ++ drop (place + n) bytes) (sym (take_at (take n (drop place bytes)) old n size));
      moved = refl;
      inside = omega (arith, count, within);
      some = λ open_room before_end. omega (arith, count, open_room, before_end);
    }
