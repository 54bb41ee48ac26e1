-- Hash values of four keys, or of one key under four seeds.
use Rattle.std.specs.Prelude.{ℕ, List, [], ◌∷◌, slice_index}
use Rattle.cm_lookup2.specs.declared.Addends.{Addends}
use Rattle.cm_spec.specs.Lookup2.{State, plus, words}

-- a function of three numbers, lane by lane
abbrev pub by_lanes : (ℕ → ℕ → ℕ → ℕ) → List ℕ → List ℕ → List ℕ → List ℕ
by_lanes f [] ys zs = []
by_lanes f (x ∷ xs) [] zs = []
by_lanes f (x ∷ xs) (y ∷ ys) [] = []
by_lanes f (x ∷ xs) (y ∷ ys) (z ∷ zs) = f x y z ∷ by_lanes f xs ys zs

-- the states whose words these lanes are
abbrev pub states_of : List ℕ → List ℕ → List ℕ → List State
states_of [] ys zs = []
states_of (x ∷ xs) [] zs = []
states_of (x ∷ xs) (y ∷ ys) [] = []
states_of (x ∷ xs) (y ∷ ys) (z ∷ zs) = record { a = x; b = y; c = z } ∷ states_of xs ys zs

-- each state gains what stands at its place
abbrev pub plus_lanes : List State → List Addends → List State
plus_lanes [] ps = []
plus_lanes (s ∷ ss) [] = []
plus_lanes (s ∷ ss) (p ∷ ps) = plus s p.a p.b p.c ∷ plus_lanes ss ps

-- the hash values of four keys, of each under the seed at its place
abbrev pub words_of_each : List ℕ → List ℕ → List ℕ → List ℕ → List ℕ → List (List ℕ)
words_of_each p q r t seeds = words p (slice_index seeds 0) ∷ words q (slice_index seeds 1) ∷ words r (slice_index seeds 2) ∷ words t (slice_index seeds 3) ∷ []
