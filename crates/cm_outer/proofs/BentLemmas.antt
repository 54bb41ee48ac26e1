-- What a spill with a wrong byte reads as.
use Rattle.std.proofs.Common.{◌≡◌, ◌∙◌, ℕ, ◌+◌, ◌-◌, ◌<◌, ◌≤◌, ◌++◌, List, length, take, drop, inl, inr, ap, sym, arith, length-take, length-drop}
use Rattle.std.proofs.Math.ListN.{set}
use Rattle.std.proofs.Math.Seq.{take-set-lt}
use Rattle.std.proofs.lemmas.Bool.{cases_lt}
use Rattle.std.proofs.lemmas.List.{drop-set-lt, drop-set-add, take-set-le, set_past, take_at, drop_at}

-- a byte that is set in what a list begins with
take_set : (bytes : List ℕ) (n i value : ℕ) → set (take n bytes) i value ≡ take n (set bytes i value)
take_set bytes n i value = elim (cases_lt i n) [
  | inl before ↦ sym (take-set-lt n bytes i value before)
  | inr after ↦ set_past (take n bytes) i value (omega (arith, after, length-take n bytes)) ∙ sym (take-set-le n bytes i value after)
]

-- a byte that is set in what stands from an offset on
window : (bytes : List ℕ) (offset n place value : ℕ) → offset ≤ place → set (take n (drop offset bytes)) (place - offset) value ≡ take n (drop offset (set bytes place value))
window bytes offset n place value after =
    let i = place - offset in
    let at : offset + i ≡ place = omega (arith, after) in
    take_set (drop offset bytes) n i value
    ∙ ap (take n) (sym (drop-set-add offset bytes i value) ∙ ap (λ (p : ℕ). drop offset (set bytes p value)) at)

-- a read from an offset, in which the byte of the place was set afterwards
pub bent_read : (bytes copied buf more : List ℕ) (offset n place value : ℕ) → buf ≡ take n (drop offset bytes) ++ more → n ≤ length bytes - offset
    → (place < offset → copied ≡ take n buf) → (offset ≤ place → copied ≡ set (take n buf) (place - offset) value) → copied ++ drop n buf ≡ take n (drop offset (set bytes place value)) ++ more
bent_read bytes copied buf more offset n place value is inside before within =
    let got = take n (drop offset bytes) in
    let size : length got ≡ n = length-take n (drop offset bytes) ∙ omega (arith, inside, length-drop offset bytes) in
    let first : take n buf ≡ got = ap (take n) is ∙ take_at got more n size in
    let rest : drop n buf ≡ more = ap (drop n) is ∙ drop_at got more n size in
    let bent : copied ≡ take n (drop offset (set bytes place value)) = elim (cases_lt place offset) [
      | inl lower ↦ before lower ∙ first ∙ ap (take n) (sym (drop-set-lt offset bytes place value lower))
      | inr upper ↦ within upper ∙ ap (λ (l : List ℕ). set l (place - offset) value) first ∙ window bytes offset n place value upper
    ] in
    ap (λ (l : List ℕ). l ++ drop n buf) bent ∙ ap (λ (l : List ℕ). take n (drop offset (set bytes place value)) ++ l) rest
