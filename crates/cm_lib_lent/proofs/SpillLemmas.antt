-- A spill in lent room: what a read of its bytes gives, and how many bytes it needs.
use Rattle.std.proofs.Common.{◌≡◌, ℕ, suc, ◌+◌, ◌-◌, min, List, ◌++◌, length, take, drop, refl, sym, ◌∙◌, ap, arith, length-drop, length-take, take-append-drop}
use Rattle.std.proofs.lemmas.List.{drop-drop, take_at}
use Rattle.cm_io.specs.Reading.{GivesAt}
use Rattle.cm_keys_lent.specs.Ends.{key_in}
use Rattle.cm_lib_lent.specs.Builds.{spill_upto}

-- what is left from an offset on, or as much of it as there is room for
pub gives_at : (bytes copied more : List ℕ) (offset n room : ℕ) → copied ≡ take n (drop offset bytes) → n ≡ min (length (drop offset bytes)) room → GivesAt bytes offset room n (copied ++ more)
gives_at bytes copied more offset n room copies count =
    let left : length (drop offset bytes) ≡ length bytes - offset = length-drop offset bytes in
    let size : length copied ≡ n = ap length copies ∙ length-take n (drop offset bytes) ∙ omega (arith, count) in
    record {
      given =
          sym (take-append-drop n (drop offset bytes))
          ∙ ap (λ (l : List ℕ). take n (drop offset bytes) ++ l) (drop-drop n offset bytes)
          ∙ ap (λ (l : List ℕ). l ++ drop (offset + n) bytes) (sym (take_at copied more n size ∙ copies));
      inside = omega (arith, count, left);
      some = λ open_room before_end. omega (arith, count, left, open_room, before_end);
    }

-- one key more
pub spill_more : (bytes ends : List ℕ) (i : ℕ) → spill_upto bytes ends (i + 1) ≡ spill_upto bytes ends i + length (key_in bytes ends i) + 10
spill_more bytes ends i =
    let next : i + 1 ≡ suc i = omega arith in
    rw next refl
