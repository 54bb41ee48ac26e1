-- Functions in lent bytes of any values.
use Rattle.std.specs.Prelude.{◌≡◌, ◌*◌, ◌/◌, ◌^◌, ◌≤◌, ◌==◌, ℕ, List, length, slice_index, nat_lt, if◌then◌else◌, Option, None, Some}
use Rattle.std.specs.Int.{div_ceil}
use Rattle.cm_bdz.specs.Functions.{Bdz, BdzPh, chosen_of}
use Rattle.cm_bdz.specs.declared.lent.BdzParts.{BdzParts}
use Rattle.cm_bdz.specs.declared.lent_ph.BdzPhParts.{BdzPhParts}
use Rattle.cm_bits.specs.Held.{packed_cells}
use Rattle.cm_rank.specs.Ranks.{Samples, ranks_in, sampled_rank}
use Rattle.cm_spec.specs.Image.{packed_len}
use Rattle.cm_spec.specs.declared.limits.TheConstants.{MAX_KEYS, MAX_VERTICES}

-- the numbers and the lengths of these parts fit together; the bytes may have any values, and the ratio any
pub record FitsBdz (p : BdzParts) : Type 0 where
  pub keys : (1 ≤ p.keys) × (p.keys ≤ MAX_KEYS)
  pub third : (1 ≤ p.third) × (3 * p.third ≤ MAX_VERTICES)
  pub scaled : p.scaled ≡ 2 ^ 32 / p.third
  pub b : (3 ≤ p.b) × (p.b ≤ 10)
  pub cells : length p.cells.now ≡ packed_len 4 (3 * p.third)
  pub ranks : length p.ranks.now ≡ 4 * div_ceil (3 * p.third) (2 ^ p.b)

-- the same of BDZ_PH
pub record FitsBdzPh (p : BdzPhParts) : Type 0 where
  pub keys : (1 ≤ p.keys) × (p.keys ≤ MAX_KEYS)
  pub third : (1 ≤ p.third) × (3 * p.third ≤ MAX_VERTICES)
  pub scaled : p.scaled ≡ 2 ^ 32 / p.third
  pub cells : length p.cells.now ≡ packed_len 5 (3 * p.third)

-- a function by BDZ and ranks, which may be any numbers
pub record HeldBdz : Type 0 where
  pub function : Bdz
  pub ranks : List ℕ

-- what parts hold
abbrev pub bdz_held : BdzParts → HeldBdz
bdz_held p = record {
  function = record { keys = p.keys; ratio = p.ratio; seed = p.seed; shift = p.b; cells = packed_cells 4 4 (3 * p.third) p.cells.now };
  ranks = ranks_in p.ranks.now;
}

abbrev pub bdz_ph_held : BdzPhParts → BdzPh
bdz_ph_held p = record { keys = p.keys; ratio = p.ratio; seed = p.seed; cells = packed_cells 3 5 (3 * p.third) p.cells.now }

-- the ranks as samples
abbrev pub samples_of : HeldBdz → Samples
samples_of f = record { idle = 3; shift = f.function.shift; ranks = f.ranks }

-- a number, and none if it is not below the bound
abbrev pub if_below : ℕ → ℕ → Option ℕ
if_below bound n = if nat_lt n bound then Some n else None

-- the rank of a vertex by the sample of its block, and none if its cell is 3 or the rank is not below the number of keys
abbrev pub held_rank : HeldBdz → ℕ → Option ℕ
held_rank f v =
    if slice_index f.function.cells v == 3 then None else if_below f.function.keys (sampled_rank (samples_of f) f.function.cells v)

-- the answer: the rank of the chosen vertex
abbrev pub held_answer : HeldBdz → List ℕ → Option ℕ
held_answer f key = held_rank f (chosen_of f.function.cells key f.function.seed)
