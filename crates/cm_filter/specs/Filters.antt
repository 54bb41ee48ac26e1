-- The membership filter: a fingerprint of each key of a set, to which the cells of the key's edge add up.
use Rattle.std.specs.Prelude.{ℕ, ◌-◌, ◌/◌, ◌%◌, ◌^◌, ◌≤◌, ◌==◌, Bool, List, length, slice_index, bit_xor, Option, None, Some, if◌then◌else◌}
use Rattle.std.specs.List.{sum_by}
use Rattle.cm_filter.specs.declared.limits.TheConstants.{MAX_FINGERPRINT, MIN_FINGERPRINT}
use Rattle.cm_spec.specs.Bdz.{bdz_edge, bdz_size}
use Rattle.cm_spec.specs.Built.{cells_under}
use Rattle.cm_spec.specs.Lookup2.{words}
use Rattle.cm_spec.specs.Rule.{Rule}

-- how many bits a fingerprint has
abbrev pub IsFingerprint : ℕ → Type 0
IsFingerprint w = (MIN_FINGERPRINT ≤ w) × (w ≤ MAX_FINGERPRINT)

-- the fingerprint of w bits, by the three hash values of a key: the highest w bits of their xor
abbrev pub fingerprint : ℕ → List ℕ → ℕ
fingerprint w hashed = bit_xor (bit_xor (slice_index hashed 0) (slice_index hashed 1)) (slice_index hashed 2) / 2 ^ (32 - w)

-- the cells of a key's ends, which are those of BDZ, add up to its fingerprint, modulo 2 ^ w; an untouched cell is 0
abbrev pub filter_rule : ℕ → Rule
filter_rule w = record { size = bdz_size; edge = bdz_edge; tag = fingerprint w; modulus = λ _. 2 ^ w; bound = λ _. 2 ^ w; idle = 0; target = λ i p t. t % 2 ^ w }

-- a filter: the number of keys, the ratio in millionths, the seed, the bits of a fingerprint, and the cells of its vertices
pub record Filter : Type 0 where
  pub keys : ℕ
  pub ratio : ℕ
  pub seed : ℕ
  pub bits : ℕ
  pub cells : List ℕ

-- whether a key holds: the cells of its ends add up to its fingerprint
abbrev pub holds : Filter → List ℕ → Bool
holds f key = sum_by (slice_index f.cells) (bdz_edge (words key f.seed) (length f.cells)) % 2 ^ f.bits == fingerprint f.bits (words key f.seed) % 2 ^ f.bits

-- as a function from keys to numbers: 0 for each key that holds, and none for the others
abbrev pub filter_answer : Filter → List ℕ → Option ℕ
filter_answer f key = if holds f key then Some 0 else None

-- the filter of keys under a seed
abbrev pub filter_under : List (ℕ × List ℕ) → ℕ → ℕ → ℕ → Filter
filter_under keys c w seed = record { keys = length keys; ratio = c; seed = seed; bits = w; cells = cells_under (filter_rule w) keys c seed }
