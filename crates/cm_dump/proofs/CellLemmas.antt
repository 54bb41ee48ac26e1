-- How many bytes the dump of a function by BDZ has at most.
use Rattle.std.proofs.Common.{◌≡◌, ℕ, ◌+◌, ◌*◌, ◌/◌, ◌%◌, ◌^◌, ◌<◌, ◌≤◌, arith, lit<}
use Rattle.std.specs.Int.{div_ceil}
use Rattle.std.proofs.Math.Nat.{div-add-mod, mul-le-mul_left, pow-le-pow_right}
use Rattle.std.proofs.lemmas.Nat.{le-div}
use Rattle.cm_bits.specs.declared.TheConstants.{MAX_CELLS}

-- there are few parts of at least eight each
few_parts : (n step : ℕ) → 8 ≤ step → div_ceil n step ≤ n / 8 + 1
few_parts n step some =
    let parts : step * (n / step) + n % step ≡ n = div-add-mod n step in
    let more : n / step * 8 ≤ n / step * step = mul-le-mul_left (n / step) some in
    let whole : n / step ≤ n / 8 = le-div (n / step) n 8 (omega arith) (omega (arith, parts, more)) in
    omega (arith, whole)

-- the dump of a function by BDZ with n cells, whose ranks are sampled by a power of 2, is short
pub short_dump : (n shift : ℕ) → n ≤ MAX_CELLS → 3 ≤ shift → 24 + div_ceil n 4 + 4 * div_ceil n (2 ^ shift) < 2 ^ 32
short_dump n shift few apart =
    let step : 2 ^ 3 ≤ 2 ^ shift = pow-le-pow_right (lit< tt) apart in
    omega (arith, few, few_parts n (2 ^ shift) (omega (arith, step)))
