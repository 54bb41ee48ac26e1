-- How many bytes a bucket has at most.
use Rattle.std.proofs.Common.{ℕ, ◌+◌, ◌*◌, ◌/◌, ◌%◌, ◌<◌, ◌≤◌, arith, Bool, true, false, if◌then◌else◌, eqb}
use Rattle.std.specs.Int.{byte_len}
use Rattle.std.proofs.lemmas.Nat.{div_below}
use Rattle.std.proofs.Math.Nat.{mul-le-mul_left}
use Rattle.cm_brz_func.specs.Functions.{bucket_cells}
use Rattle.cm_spec.specs.Bdz.{bdz_size, made_odd, third_of}
use Rattle.cm_spec.specs.Image.{packed_len}
use Rattle.cm_spec.specs.Rule.{IsRatio}
use Rattle.cm_spec.specs.declared.limits.TheConstants.{MAX_BUCKET}
use Rattle.cm_dump.specs.Forms.{Form}
use Rattle.cm_dump.proofs.FormLemmas.{IsForm}

odd_near : (q : ℕ) → made_odd q ≤ q + 1
odd_near q = go (eqb (q % 2) 0) where
  go : (b : Bool) → (if b then q + 1 else q) ≤ q + 1
  go true = omega arith
  go false = omega arith

third_near : (q : ℕ) → third_of q ≤ q + 3
third_near q = go (eqb (made_odd q) 1) where
  go : (b : Bool) → (if b then 3 else made_odd q) ≤ q + 3
  go true = omega arith
  go false = omega (arith, odd_near q)

products : (a b : ℕ) → a ≤ 10000000 → b ≤ MAX_BUCKET → a * b ≤ 10230000000
products a b l m = omega (arith, mul-le-mul_left a m, l)

-- a bucket has few cells
few_cells : (size ratio : ℕ) → size ≤ MAX_BUCKET → IsRatio ratio → bdz_size size ratio ≤ 10239
few_cells size ratio few within =
    let most : ratio * size ≤ 10230000000 = products ratio size within.1 few in
    let third : (ratio * size + 2999999) / 3000000 < 3411 = div_below (ratio * size + 2999999) 3000000 3411 (omega arith) (omega (arith, most)) in
    omega (arith, third, third_near ((ratio * size + 2999999) / 3000000))

-- and so it has few bytes
pub bucket_short : (v : Form) → IsForm v → (size ratio : ℕ) → size ≤ MAX_BUCKET → IsRatio ratio → byte_len v.size + 4 + packed_len 4 (bucket_cells size ratio) ≤ 4096
bucket_short v known size ratio few within = go (eqb size 0) where
  go : (b : Bool) → byte_len v.size + 4 + packed_len 4 (if b then 0 else bdz_size size ratio) ≤ 4096
  go true = omega (arith, known.narrow)
  go false = omega (arith, few_cells size ratio few within, known.narrow)
