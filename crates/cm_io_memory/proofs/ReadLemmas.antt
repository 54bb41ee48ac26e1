-- What a read of bytes in memory gives.
use Rattle.std.proofs.Common.{◌≡◌, ℕ, ◌+◌, ◌-◌, ◌≤◌, min, List, ◌++◌, length, take, drop, refl, sym, ◌∙◌, ap, arith, length-drop, length-take, take-append-drop}
use Rattle.std.proofs.lemmas.List.{drop-drop, take_at, take_rest}
use Rattle.cm_io.specs.Reading.{Gives, GivesAt}

pub given : (bytes copied more : List ℕ) (place n : ℕ) → copied ≡ take n (drop place bytes) → n ≤ length (drop place bytes) → drop place bytes ≡ take n (copied ++ more) ++ drop (place + n) bytes
given bytes copied more place n is inside =
    let size : length copied ≡ n = ap length is ∙ length-take n (drop place bytes) ∙ omega arith in
    sym (take-append-drop n (drop place bytes))
    ∙ ap (λ (l : List ℕ). take n (drop place bytes) ++ l) (drop-drop n place bytes)
    ∙ ap (λ (l : List ℕ). l ++ drop (place + n) bytes) (sym (take_at copied more n size ∙ is))

-- what is left, or as much of it as there is room for
pub read_gives : (bytes xs copied more : List ℕ) (place n room : ℕ) → xs ≡ bytes → place ≤ length bytes → copied ≡ take n (take (length xs - place) (drop place xs)) → n ≡ min (length (take (length xs - place) (drop place xs))) room
    → Gives bytes place (place + n) room n (copied ++ more)
read_gives bytes xs copied more place n room value within copies count =
    let rest : take (length xs - place) (drop place xs) ≡ drop place bytes = take_rest xs place ∙ ap (λ (l : List ℕ). drop place l) value in
    let left : length (drop place bytes) ≡ length bytes - place = length-drop place bytes in
    let is : n ≡ min (length bytes - place) room = count ∙ ap (λ (k : ℕ). min k room) (ap length rest ∙ left) in
    record {
      given = given bytes copied more place n (copies ∙ ap (λ (l : List ℕ). take n l) rest) (omega (arith, left, is));
      moved = refl;
      inside = omega (arith, is, within);
      some = λ open_room before_end. omega (arith, is, open_room, before_end);
    }

-- the same from an offset, which may be past the end
pub read_gives_at : (bytes copied more : List ℕ) (offset n room : ℕ) → copied ≡ take n (drop offset bytes) → n ≡ min (length (drop offset bytes)) room → GivesAt bytes offset room n (copied ++ more)
read_gives_at bytes copied more offset n room copies count =
    let left : length (drop offset bytes) ≡ length bytes - offset = length-drop offset bytes in
    record {
      given = given bytes copied more offset n copies (omega (arith, count));
      inside = omega (arith, count, left);
      some = λ open_room before_end. omega (arith, count, left, open_room, before_end);
    }
