-- How many bytes a bucket has at most, and how many buckets there are.
use Rattle.std.specs.Int.{byte_len}
use Rattle.std.proofs.Common.{◌≡◌, ◌≢◌, ◌⊎◌, ℕ, ◌+◌, ◌-◌, ◌*◌, ◌/◌, ◌%◌, ◌<◌, ◌≤◌, length, ap, arith, inl, inr, Bool, true, false, if◌then◌else◌, eqb}
use Rattle.std.proofs.lemmas.Nat.{div_below}
use Rattle.std.proofs.Math.Nat.{div-le_of_le-mul, mul-le-mul_left}
use Rattle.cm_brz_func.specs.Functions.{Bucket, IsBucket, bucket_cells, bucket_count}
use Rattle.cm_dump.specs.Forms.{form_of}
use Rattle.cm_dump.specs.Spelling.{bucket_len}
use Rattle.cm_dump.specs.declared.versions.Version.{Version}
use Rattle.cm_dump.specs.declared.versions.Version.TheVariants as version
use Rattle.cm_spec.specs.Bdz.{bdz_size, made_odd, third_of}
use Rattle.cm_spec.specs.Image.{packed_len}
use Rattle.cm_spec.specs.Rule.{IsRatio}
use Rattle.cm_spec.specs.declared.limits.TheConstants.{MAX_BUCKET, MAX_KEYS, MIN_WIDTH}

odd_near : (q : ℕ) → made_odd q ≤ q + 1
odd_near q = go (eqb (q % 2) 0) where
  go : (b : Bool) → (if b then q + 1 else q) ≤ q + 1
  go true = omega arith
  go false = omega arith

third_near : (q : ℕ) → third_of q ≤ q + 3
third_near q = go (eqb (made_odd q) 1) where
  go : (b : Bool) → (if b then 3 else made_odd q) ≤ q + 3
  go true = omega arith
  go false = omega (arith, odd_near q)

products : (a b : ℕ) → a ≤ 10000000 → b ≤ MAX_BUCKET → a * b ≤ 10230000000
products a b l m = omega (arith, mul-le-mul_left a m, l)

few_cells : (size ratio : ℕ) → size ≤ MAX_BUCKET → IsRatio ratio → bucket_cells size ratio ≤ 10239
few_cells size ratio few within = go (eqb size 0) where
  most : ratio * size ≤ 10230000000
  most = products ratio size within.1 few

  third : (ratio * size + 2999999) / 3000000 < 3411
  third = div_below (ratio * size + 2999999) 3000000 3411 (omega arith) (omega (arith, most))

  go : (b : Bool) → (if b then 0 else bdz_size size ratio) ≤ 10239
  go true = omega arith
  go false = omega (arith, third, third_near ((ratio * size + 2999999) / 3000000))

narrow : (v : Version) → byte_len (form_of v).size ≤ 2
narrow version.One = omega arith
narrow version.Two = omega arith

-- a bucket has at most 2,566 bytes
pub bucket_short : (v : Version) (ratio : ℕ) (b : Bucket) → IsRatio ratio → IsBucket ratio b → bucket_len (form_of v) b ≤ 2566
bucket_short v ratio b within is = omega (arith, narrow v, is.cells, few_cells b.size ratio is.few within)

-- there are at most 1,048,577 buckets
pub few_buckets : (m b : ℕ) → m ≤ MAX_KEYS → MIN_WIDTH ≤ b → bucket_count m b ≤ 1048577
few_buckets m b few wide = div-le_of_le-mul b (omega (arith, few, wide))
