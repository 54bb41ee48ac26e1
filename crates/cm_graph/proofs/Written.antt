-- Slices that are written back.
use Rattle.std.proofs.Common.{◌≡◌, ℕ, List, ◌++◌, length, take, drop, ap, ◌∙◌, arith}
use Rattle.std.proofs.lemmas.List.{take_all, take-append-le}

-- a slice that is written back to its Vec
pub written_back : {X : Type 0} (new old : List X) (n : ℕ) → n ≡ length old → length new ≡ length old → take n (new ++ drop (length new) old) ≡ new
written_back new old n long same =
    let e : n ≡ length new = omega arith in
    ap (λ k. take k (new ++ drop (length new) old)) e ∙ (take-append-le (length new) new (drop (length new) old) (omega arith) ∙ take_all (length new) new (omega arith))
