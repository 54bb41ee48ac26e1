-- The rule of an algorithm: what it takes from the hash values of a key, and what it puts into cells.
use Rattle.std.specs.Prelude.{◌≡◌, ℕ, ◌%◌, ◌<◌, ◌≤◌, List, length}
use Rattle.cm_spec.specs.Graph.{IsEdge}
use Rattle.cm_spec.specs.declared.limits.TheConstants.{MAX_EDGES, MAX_VERTICES}

-- the number of vertices for m keys and the ratio c in millionths; the ends for the hash values of a key over n vertices; the tag; for
-- m keys the modulus and the bound of cells; the value of an untouched cell; what the cells of a key's ends add up to, by the key's
-- number, its pivot's position and its tag
pub record Rule : Type 0 where
  pub size : ℕ → ℕ → ℕ
  pub edge : List ℕ → ℕ → List ℕ
  pub tag : List ℕ → ℕ
  pub modulus : ℕ → ℕ
  pub bound : ℕ → ℕ
  pub idle : ℕ
  pub target : ℕ → ℕ → ℕ → ℕ

-- a number of keys
abbrev pub IsCount : ℕ → Type 0
IsCount m = (1 ≤ m) × (m ≤ MAX_EDGES)

-- a ratio in millionths
abbrev pub IsRatio : ℕ → Type 0
IsRatio c = (1000000 ≤ c) × (c ≤ 10000000)

-- n is the number of vertices for some number of keys and some ratio
pub record IsSize (r : Rule) (n : ℕ) : Type 0 where
  pub keys : ℕ
  pub ratio : ℕ
  pub many : IsCount keys
  pub within : IsRatio ratio
  pub is : n ≡ r.size keys ratio

-- what every rule over edges of k ends keeps
pub record IsRule (k : ℕ) (r : Rule) : Type 0 where
  pub two_or_three : (2 ≤ k) × (k ≤ 3)
  pub few : (n : ℕ) → IsSize r n → n ≤ MAX_VERTICES
  pub ends : (w : List ℕ) (n : ℕ) → IsSize r n → (length (r.edge w n) ≡ k) × IsEdge n (r.edge w n)
  pub target_below : (m i p t : ℕ) → IsCount m → i < m → p < k → r.target i p t < r.modulus m
  pub modulus_within : (m : ℕ) → IsCount m → r.modulus m ≤ r.bound m
  pub idle_below : (m : ℕ) → IsCount m → r.idle < r.bound m
  pub idle_none : (m : ℕ) → IsCount m → r.idle % r.modulus m ≡ 0
