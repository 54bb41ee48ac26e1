-- CHM (Czech, Havas, Majewski 1992): graphs with two ends an edge, and the number of a key from the sum of two cells.
use Rattle.std.specs.Prelude.{ℕ, ◌+◌, ◌*◌, ◌/◌, ◌%◌, ◌==◌, if◌then◌else◌, List, [], ◌∷◌, slice_index, max}
use Rattle.std.specs.List.{sum_by}
use Rattle.cm_spec.specs.Lookup2.{words}
use Rattle.cm_spec.specs.Rule.{Rule}

-- the number of vertices for m keys and the ratio c in millionths: ceil(c * m / 10^6), at least 2
abbrev pub chm_size : ℕ → ℕ → ℕ
chm_size m c = max 2 ((c * m + 999999) / 1000000)

-- the second end; if it equals the first, the next vertex is taken
abbrev pub chm_second : ℕ → ℕ → ℕ → ℕ
chm_second a b n = if a == b then (a + 1) % n else b

-- the ends for the hash values of a key over n vertices
abbrev pub chm_edge : List ℕ → ℕ → List ℕ
chm_edge w n = slice_index w 0 % n ∷ chm_second (slice_index w 0 % n) (slice_index w 1 % n) n ∷ []

-- the cells of a key's ends add up to its number, modulo the number of keys
abbrev pub chm_rule : Rule
chm_rule = record { size = chm_size; edge = chm_edge; tag = λ _. 0; modulus = λ m. m; bound = λ m. m; idle = 0; target = λ i p t. i }

-- a function: the number of keys, the ratio in millionths, the seed, and the cells of its vertices
pub record Chm : Type 0 where
  pub keys : ℕ
  pub ratio : ℕ
  pub seed : ℕ
  pub cells : List ℕ

-- the number that a function returns for a key
abbrev pub chm_answer : Chm → List ℕ → ℕ
chm_answer f key = sum_by (slice_index f.cells) (chm_edge (words key f.seed) (chm_size f.keys f.ratio)) % f.keys
