-- What brings a sum to a target, by the remainder of the sum.
use Rattle.std.proofs.Common.{◌≡◌, ◌∙◌, ℕ, ◌+◌, ◌-◌, ◌*◌, ◌%◌, ◌<◌, ◌≤◌, sym, ap, arith}
use Rattle.std.proofs.lemmas.Nat.{mod-mul-add}

-- the number below n that brings a sum to the target, by the remainder of the sum
pub from_above : (n target left : ℕ) → target < n → left ≤ target → target - left ≡ (target + (n - left)) % n
from_above n target left low h =
    let is : 1 * n + (target - left) ≡ target + (n - left) = omega arith in
    sym (mod-mul-add 1 n (target - left) (omega arith)) ∙ ap (λ (k : ℕ). k % n) is

pub from_below : (n target left : ℕ) → left < n → target < left → n - (left - target) ≡ (target + (n - left)) % n
from_below n target left low h =
    let is : 0 * n + (n - (left - target)) ≡ target + (n - left) = omega arith in
    sym (mod-mul-add 0 n (n - (left - target)) (omega arith)) ∙ ap (λ (k : ℕ). k % n) is
