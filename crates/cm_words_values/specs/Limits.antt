-- The ranges of the options' values.
use Rattle.std.specs.Prelude.{◌≡◌, ◌⊎◌, ◌≤◌, ◌*◌, ℕ, Option}
use Rattle.std.specs.Option.{ForSome}
use Rattle.cm_spec.specs.Rule.{IsRatio}
use Rattle.cm_spec.specs.declared.limits.TheConstants.{MAX_WIDTH, MIN_WIDTH}
use Rattle.cm_words_values.specs.declared.limits.TheConstants.{LINE_FEED, MAX_SEEDS, MAX_TEST_KEYS, MEGABYTE, ZERO_BYTE}

-- a number of lines, if it is given, is at least one
abbrev pub IsFirst : Option ℕ → Type 0
IsFirst first = ForSome first (λ n. 1 ≤ n)

-- a sampling of ranks
abbrev pub IsSampling : ℕ → Type 0
IsSampling b = (3 ≤ b) × (b ≤ 10)

-- how many keys a bucket has on average
abbrev pub IsWidth : ℕ → Type 0
IsWidth b = (MIN_WIDTH ≤ b) × (b ≤ MAX_WIDTH)

-- how many seeds are tried
abbrev pub IsCount : ℕ → Type 0
IsCount seeds = (1 ≤ seeds) × (seeds ≤ MAX_SEEDS)

-- a buffer in bytes: from 1 to 1,024 megabytes
abbrev pub IsBuffer : ℕ → Type 0
IsBuffer bytes = (MEGABYTE ≤ bytes) × (bytes ≤ 1024 * MEGABYTE)

-- a byte that ends lines: a line feed, or with -z byte 0
abbrev pub IsEnd : ℕ → Type 0
IsEnd end = (end ≡ LINE_FEED) ⊎ (end ≡ ZERO_BYTE)

-- how many generated keys a test has
abbrev pub IsTestSize : ℕ → Type 0
IsTestSize keys = (1 ≤ keys) × (keys ≤ MAX_TEST_KEYS)

-- The ranges of a build's numbers: the ratio in millionths, the sampling of ranks if they are sampled, the average size of a bucket if
-- the keys are split, how many seeds, the buffer in bytes, and the number of lines.
pub record AreInRange (sampled split : Type 0) (c b seeds bytes : ℕ) (lines : Option ℕ) : Type 0 where
  pub ratio : IsRatio c
  pub sampling : sampled → IsSampling b
  pub width : split → IsWidth b
  pub count : IsCount seeds
  pub buffer : IsBuffer bytes
  pub first : IsFirst lines
