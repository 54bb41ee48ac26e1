-- A remainder from a product with the divisor's reciprocal.
use Rattle.std.proofs.Common.{◌≡◌, ◌∙◌, ℕ, ◌+◌, ◌-◌, ◌*◌, ◌/◌, ◌%◌, ◌^◌, ◌<◌, ◌≤◌, sym, ap, arith}
use Rattle.std.proofs.Math.Nat.{div-add-mod, mul-add, mul-le-mul_left, mul_comm, mul_left_comm}
use Rattle.std.proofs.lemmas.Nat.{mod-mul-add, mod_below}

-- a quotient is the true one or one less: what is left is below twice the divisor
pub record IsNear (x n q : ℕ) : Type 0 where
  pub within : q * n ≤ x
  pub left : x - q * n < 2 * n

-- so is the one from a product with the reciprocal
pub near_is : (x n m : ℕ) → x < 2 ^ 32 → 0 < n → m ≡ 2 ^ 32 / n → IsNear x n (x * m / 2 ^ 32)
near_is x n m few some reciprocal =
    let s : ℕ = 2 ^ 32 % n in
    let q : ℕ = x * m / 2 ^ 32 in
    let r : ℕ = x * m % 2 ^ 32 in
    let whole : n * m + s ≡ 2 ^ 32 = ap (λ (k : ℕ). n * k + s) reciprocal ∙ div-add-mod (2 ^ 32) n in
    let low : s < n = mod_below (2 ^ 32) n some in
    let parts : 2 ^ 32 * q + r ≡ x * m = div-add-mod (x * m) (2 ^ 32) in
    let low' : r < 2 ^ 32 = mod_below (x * m) (2 ^ 32) (omega arith) in
    let split : n * (2 ^ 32 * q) + n * r ≡ n * (x * m) = sym (mul-add n (2 ^ 32 * q) r) ∙ ap (λ (k : ℕ). n * k) parts in
    let turned : n * (2 ^ 32 * q) ≡ 2 ^ 32 * (q * n) = mul_left_comm n (2 ^ 32) q ∙ ap (λ (k : ℕ). 2 ^ 32 * k) (mul_comm n q) in
    let times : x * (n * m) + x * s ≡ x * 2 ^ 32 = sym (mul-add x (n * m) s) ∙ ap (λ (k : ℕ). x * k) whole in
    let turned' : n * (x * m) ≡ x * (n * m) = mul_left_comm n x m in
    let small : n * r ≤ n * (2 ^ 32 - 1) = mul-le-mul_left n (omega arith) in
    let small' : n * x ≤ n * (2 ^ 32 - 1) = mul-le-mul_left n (omega arith) in
    let part : x * s ≤ x * n = mul-le-mul_left x (omega arith) in
    let same : x * n ≡ n * x = mul_comm x n in
    record { within = omega (arith, split, turned, times, turned'); left = omega (arith, split, turned, times, turned', small, small', part, same, some) }

-- what is left of x after some n is its remainder, if it is below n
pub left_is : (x n q : ℕ) → q * n ≤ x → x - q * n < n → x - q * n ≡ x % n
left_is x n q within low =
    let is : q * n + (x - q * n) ≡ x = omega arith in
    sym (mod-mul-add q n (x - q * n) low) ∙ ap (λ (k : ℕ). k % n) is

-- and if it is not, one n more is taken off
pub less_is : (x n : ℕ) (q : ℕ) → IsNear x n q → n ≤ x - q * n → x - q * n - n ≡ x % n
less_is x n q near high =
    let more : (q + 1) * n ≡ q * n + n = omega arith in
    let same : x - (q + 1) * n ≡ x - q * n - n = omega (arith, more) in
    sym same ∙ left_is x n (q + 1) (omega (arith, more, high)) (omega (arith, more, high, near.left))
