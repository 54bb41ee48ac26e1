-- What was read of a source, with the next bytes.
use Rattle.std.proofs.Common.{◌≡◌, ◌∙◌, ℕ, ◌≤◌, List, ◌++◌, length, take, drop, ap, arith, length-take}
use Rattle.std.proofs.Math.Seq.{take-add}
use Rattle.std.proofs.lemmas.List.{take_at}
use Rattle.cm_io.specs.Reading.{Gives}

pub take_further : (bytes buf : List ℕ) (before now room n : ℕ) → Gives bytes before now room n buf → n ≤ length buf → take now bytes ≡ take before bytes ++ take n buf
take_further bytes buf before now room n gives few =
    let size : length (take n buf) ≡ n = omega (arith, length-take n buf, few) in
    let next : take n (drop before bytes) ≡ take n buf = ap (λ (l : List ℕ). take n l) gives.given ∙ take_at (take n buf) (drop now bytes) n size in
    ap (λ (k : ℕ). take k bytes) gives.moved ∙ take-add before n bytes ∙ ap (λ (l : List ℕ). take before bytes ++ l) next
