-- The cells in the zero bytes that bytes begin with.
use Rattle.std.specs.Prelude.{◌≡◌, ℕ, ◌+◌, ◌-◌, ◌*◌, ◌/◌, ◌%◌, ◌^◌, ◌<◌, ◌≤◌, List, length, slice_index, nat_le}
use Rattle.std.specs.List.{position_or_len}
use Rattle.std.proofs.Common.{arith, ap, sym, ◌∙◌}
use Rattle.std.proofs.Math.Nat.{mul-le-mul_left, div-mul-le_self}
use Rattle.std.proofs.lemmas.Nat.{pow_pos}
use Rattle.std.proofs.lemmas.Bool.{leb-false}
use Rattle.std.proofs.lemmas.List.Sums.{fails_before_first}
use Rattle.cm_spec.specs.Image.{digits_sum}
use Rattle.cm_bits.specs.Fault.{bytes_number}
use Rattle.cm_bits.specs.DigitsLaws.{digits_sum-same, digits_above, digit_lowest, pow_add, pow_pow, digits_sum-append}
use Rattle.cm_bits.proofs.DigitsLemmas.{digits_sum-zero}

-- zeros below are a factor
zeros_below : (bytes : List ℕ) (zeros : ℕ) → zeros ≤ length bytes → ((k : ℕ) → k < zeros → slice_index bytes k ≡ 0) → bytes_number bytes ≡ 256 ^ zeros * digits_sum 256 (λ k. slice_index bytes (zeros + k)) (length bytes - zeros)
unfolding bytes_number
zeros_below bytes zeros l h =
    let split : length bytes ≡ zeros + (length bytes - zeros) = omega arith in
    let none : digits_sum 256 (slice_index bytes) zeros ≡ 0 = digits_sum-same 256 (slice_index bytes) (λ _. 0) zeros h ∙ digits_sum-zero 256 zeros in
    ap (digits_sum 256 (slice_index bytes)) split
    ∙ digits_sum-append 256 (slice_index bytes) zeros (length bytes - zeros)
    ∙ rw none (omega arith)

pub clear_cell : (w : ℕ) (bytes : List ℕ) (zeros k : ℕ) → 0 < w → zeros ≤ length bytes → zeros ≤ position_or_len (λ b. nat_le 1 b) bytes → k < 8 * zeros / w → bytes_number bytes / (2 ^ w) ^ k % 2 ^ w ≡ 0
clear_cell w bytes zeros k some l first h =
    let number : bytes_number bytes ≡ 256 ^ zeros * digits_sum 256 (λ k. slice_index bytes (zeros + k)) (length bytes - zeros) =
    zeros_below bytes zeros l (λ j m. let low : slice_index bytes j < 1 = leb-false 1 (slice_index bytes j) (fails_before_first (λ b. nat_le 1 b) bytes j 0 (omega arith)) in omega arith) in
    let high : ℕ = digits_sum 256 (λ k. slice_index bytes (zeros + k)) (length bytes - zeros) in
    let most : w * (k + 1) ≤ w * (8 * zeros / w) = mul-le-mul_left w (let e : k + 1 ≤ 8 * zeros / w = omega arith in e) in
    let whole : 8 * zeros / w * w ≤ 8 * zeros = div-mul-le_self (8 * zeros) w in
    let rest : ℕ = 8 * zeros - w * k - w in
    let place : 256 ^ zeros ≡ (2 ^ w) ^ k * (2 ^ w * 2 ^ rest) =
    sym (pow_pow 2 8 zeros)
    ∙ ap (λ e. 2 ^ e) (let t : 8 * zeros ≡ w * k + (w + rest) = omega arith in t)
    ∙ pow_add 2 (w * k) (w + rest)
    ∙ ap (λ x. 2 ^ (w * k) * x) (pow_add 2 w rest)
    ∙ ap (λ x. x * (2 ^ w * 2 ^ rest)) (pow_pow 2 w k) in
    let turned : bytes_number bytes ≡ 0 + (2 ^ w) ^ k * (0 + 2 ^ w * (2 ^ rest * high)) = number ∙ rw place (omega arith) in
    let unit : 0 < (2 ^ w) ^ k = rw (← pow_pow 2 w k) (pow_pos (w * k)) in
    rw (turned, digits_above ((2 ^ w) ^ k) 0 (0 + 2 ^ w * (2 ^ rest * high)) unit unit) (digit_lowest (2 ^ w) 0 (2 ^ rest * high) (pow_pos w))
