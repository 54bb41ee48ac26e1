-- Lemmas about bytes that are written in pieces, which the proofs of writers cite. No contract needs them.
use Rattle.std.proofs.Common.{◌≡◌, ◌∙◌, ℕ, List, ◌++◌, take, ap, Option, Result}
use Rattle.std.specs.Prelude.{IsErr}
use Rattle.cm_io.specs.declared.fault.Failed.{Failed}
use Rattle.cm_io.specs.Writing.{Writes, then_bytes}
use Rattle.cm_io.specs.WritingLaws.{then_twice, writes_then, front_of_first, writes_front}

-- more went through
pub more_wrote : (old mid new : Option (List ℕ)) (xs ys zs : List ℕ) → xs ++ ys ≡ zs → mid ≡ then_bytes old xs → new ≡ then_bytes mid ys → new ≡ then_bytes old zs
more_wrote old mid new xs ys zs whole before now = now ∙ ap (λ (w : Option (List ℕ)). then_bytes w ys) before ∙ then_twice old xs ys ∙ ap (then_bytes old) whole

-- more failed: what was taken is a prefix of all
pub more_stopped : (old mid new : Option (List ℕ)) (xs ys zs all : List ℕ) (result : Result (Unit {0}) Failed) → xs ++ (ys ++ zs) ≡ all → IsErr result → mid ≡ then_bytes old xs → ((n : ℕ) × (new ≡ then_bytes mid (take n ys))) → Writes old new all result
more_stopped old mid new xs ys zs all result whole failed before now =
    let front = front_of_first mid new ys zs now.0 now.1 in
    let every : Writes old new (xs ++ (ys ++ zs)) result = writes_then old mid new xs (ys ++ zs) result before (writes_front mid new (ys ++ zs) result failed front) in
    rw whole at every
