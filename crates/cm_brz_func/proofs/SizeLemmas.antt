-- How many cells a bucket has.
use Rattle.std.proofs.Common.{◌≡◌, ◌≢◌, ◌⊎◌, ℕ, ◌+◌, ◌*◌, ◌/◌, ◌%◌, ◌<◌, ◌≤◌, List, length, inl, inr, ap, arith, cond, eqb, eq-eqb, Bool, false, true}
use Rattle.std.proofs.Math.Nat.{div-le_of_le-mul, div-mul-le_self, mul-le-mul_right}
use Rattle.std.proofs.lemmas.Bool.{cases_eq, ne_eqb}
use Rattle.cm_bits.specs.declared.TheConstants.{MAX_CELLS}
use Rattle.cm_spec.specs.Bdz.{bdz_size, made_odd, third_of}
use Rattle.cm_spec.specs.Image.{packed_len}
use Rattle.cm_spec.specs.Rule.{IsRatio}
use Rattle.cm_spec.specs.declared.limits.TheConstants.{MAX_KEYS, MIN_WIDTH}
use Rattle.cm_brz_func.specs.Functions.{bucket_cells, bucket_count}

-- a number made odd is the number or one more
odd_near : (q : ℕ) → (q ≤ made_odd q) × (made_odd q ≤ q + 1)
odd_near q = go (eqb (q % 2) 0) where
  go : (t : Bool) → (q ≤ cond {A = ℕ} t (q + 1) q) × (cond {A = ℕ} t (q + 1) q ≤ q + 1)
  go true = (omega arith, omega arith)
  go false = (omega arith, omega arith)

odd_some : (q : ℕ) → 0 < made_odd q
odd_some q = go (cases_eq (q % 2) 0) where
  go : (q % 2 ≡ 0) ⊎ (q % 2 ≡ 0 → ⊥) → 0 < made_odd q
  go (inl e) = rw (eq-eqb (q % 2) 0 e) (omega arith)
  go (inr ne) = omega (arith, ne, odd_near q)

-- a third is above 0, and at most 3, or one more than its share
third_some : (q : ℕ) → 0 < third_of q
third_some q = go (eqb (made_odd q) 1) where
  go : (t : Bool) → 0 < cond {A = ℕ} t 3 (made_odd q)
  go true = omega arith
  go false = odd_some q

third_most : (q : ℕ) → third_of q ≤ q + 3
third_most q = go (eqb (made_odd q) 1) where
  go : (t : Bool) → cond {A = ℕ} t 3 (made_odd q) ≤ q + 3
  go true = omega arith
  go false = omega (arith, odd_near q)

pub few_bdz_cells : (size c : ℕ) → IsRatio c → bdz_size size c ≤ 10 * size + 11
few_bdz_cells size c ratio = omega (arith, share, whole, third_most q) where
  q : ℕ
  q = (c * size + 2999999) / 3000000

  share : c * size ≤ 10000000 * size
  share = mul-le-mul_right size ratio.1

  whole : q * 3000000 ≤ c * size + 2999999
  whole = div-mul-le_self (c * size + 2999999) 3000000

few_bucket_cells : (size c : ℕ) → IsRatio c → bucket_cells size c ≤ 10 * size + 11
few_bucket_cells size c ratio = go (eqb size 0) where
  go : (t : Bool) → cond {A = ℕ} t 0 (bdz_size size c) ≤ 10 * size + 11
  go true = omega arith
  go false = few_bdz_cells size c ratio

-- with the cells that fill up the last byte
pub few_cells : (size c : ℕ) (cells : List ℕ) → IsRatio c → length cells ≡ bucket_cells size c → length cells + 3 ≤ 10 * size + 14
few_cells size c cells ratio is = omega (arith, is, few_bucket_cells size c ratio)

pub some_third : (size c third : ℕ) → size ≢ 0 → 3 * third ≡ bucket_cells size c → 0 < third
some_third size c third any is =
    let cells : bucket_cells size c ≡ bdz_size size c = ap (λ (t : Bool). cond t 0 (bdz_size size c)) (ne_eqb size 0 any) in
    omega (arith, is, cells, third_some ((c * size + 2999999) / 3000000))

-- it is three times a number
pub by_thirds : (size c : ℕ) → 3 * (bucket_cells size c / 3) ≡ bucket_cells size c
by_thirds size c = go (eqb size 0) where
  go : (t : Bool) → 3 * (cond {A = ℕ} t 0 (bdz_size size c) / 3) ≡ cond {A = ℕ} t 0 (bdz_size size c)
  go true = omega arith
  go false = omega arith

-- ---- all buckets

most_buckets : (m b : ℕ) → m ≤ MAX_KEYS → MIN_WIDTH ≤ b → bucket_count m b ≤ 1048577
most_buckets m b few wide = div-le_of_le-mul b (omega (arith, few, wide))

-- so a table has room for the cells of all of them, and may have no more cells than `MAX_CELLS`
pub room_for : (m b held size count table next : ℕ) → m ≤ MAX_KEYS → MIN_WIDTH ≤ b → count < bucket_count m b → held + size ≤ m → table ≤ 10 * held + 14 * count → next + 3 ≤ 10 * size + 14
    → 4 * packed_len 4 table + next ≤ MAX_CELLS
room_for m b held size count table next few wide room within short cells = omega (arith, most_buckets m b few wide, few, room, within, short, cells)
