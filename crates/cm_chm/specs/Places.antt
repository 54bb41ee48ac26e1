-- Where a function looks up the number of a key.
use Rattle.std.specs.Prelude.{ℕ, ◌++◌, List, [], ◌∷◌}
use Rattle.cm_spec.specs.Chm.{Chm, chm_edge, chm_size}
use Rattle.cm_spec.specs.Lookup2.{words}

-- the two ends of the key's edge, and 0 twice
abbrev pub chm_place : Chm → List ℕ → List ℕ
chm_place f key = chm_edge (words key f.seed) (chm_size f.keys f.ratio) ++ 0 ∷ 0 ∷ []
