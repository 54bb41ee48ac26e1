-- The keys of a bucket in memory, and the pass over them.
use Rattle.std.specs.Prelude.{◌≡◌, ◌<◌, ◌≤◌, ◌+◌, ◌-◌, ℕ, List, [], ◌∷◌, length, map, take, drop, slice_index_or, All}
use Rattle.cm_brz_split.specs.declared.bucket_keys.Spot.{Spot}
use Rattle.cm_io.specs.declared.key_pass.TheConstants.{MAX_KEY_LEN}
use Rattle.cm_spec.specs.Lookup2.{words}

-- keys with their lines, how many of them the pass has yielded, and how many were hashed, under which seeds
pub record BucketPass : Type 0 where
  pub keys : List (ℕ × List ℕ)
  pub given : ℕ
  pub seeds : List ℕ
  pub hashed : ℕ

-- the line of the key before a place, and 0 before the first
abbrev pub line_before : List (ℕ × List ℕ) → ℕ → ℕ
line_before keys place = (slice_index_or ((0, []) ∷ keys) place (0, [])).0

-- the line of the last key, and 0 if there is none
abbrev pub last_line : List (ℕ × List ℕ) → ℕ
last_line keys = line_before keys (length keys)

-- each key is of a later line than the one before it
abbrev pub LinesRise : List (ℕ × List ℕ) → Type 0
LinesRise keys = (i : ℕ) → i < length keys → line_before keys i < line_before keys (i + 1)

-- a key whose bytes stand among these, with its line
abbrev pub keyed_in : List ℕ → Spot → ℕ × List ℕ
keyed_in bytes s = (s.line, take (s.until - s.from) (drop s.from bytes))

-- the hash values of a key under each of some seeds
abbrev pub words_under : List ℕ → ℕ × List ℕ → List (List ℕ)
words_under seeds key = map (words key.1) seeds

-- those of the first of some keys, as many as were hashed
abbrev pub AreHashed : List ℕ → List (ℕ × List ℕ) → List (List (List ℕ)) → Type 0
AreHashed seeds keys hashed = (hashed ≡ map (words_under seeds) (take (length hashed) keys)) × (length hashed ≤ length keys)

-- its bytes do stand there, and are no more than a key has
abbrev pub IsKeyIn : List ℕ → Spot → Type 0
IsKeyIn bytes s = (s.from ≤ s.until) × (s.until ≤ length bytes) × (s.until ≤ s.from + MAX_KEY_LEN)

-- keys whose bytes stand among these, by rising lines, at most `most` of them; some of them were yielded
pub record IsBucketPass (most : ℕ) (bytes : List ℕ) (spots : List Spot) (given : ℕ) : Type 0 where
  pub stand : All (IsKeyIn bytes) spots
  pub rise : LinesRise (map (keyed_in bytes) spots)
  pub few : length spots ≤ most
  pub within : given ≤ length spots
