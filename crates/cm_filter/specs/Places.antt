-- Where a filter looks up a key.
use Rattle.std.specs.Prelude.{ℕ, ◌++◌, List, [], ◌∷◌, length}
use Rattle.cm_filter.specs.Filters.{Filter, fingerprint}
use Rattle.cm_spec.specs.Bdz.{bdz_edge}
use Rattle.cm_spec.specs.Lookup2.{words}

-- the three ends of the key's edge, and its fingerprint
abbrev pub filter_place : Filter → List ℕ → List ℕ
filter_place f key = bdz_edge (words key f.seed) (length f.cells) ++ fingerprint f.bits (words key f.seed) ∷ []
