-- The algorithms that a scheme can be.
use Rattle.std.specs.Prelude.{◌≡◌, ℕ}
use Rattle.cm_algo_names.specs.declared.algorithm.Algorithm.{Algorithm}
use Rattle.cm_algo_names.specs.declared.algorithm.Algorithm.TheVariants.{Chm, Bdz, BdzPh, Brz}

-- edges of k ends are those of the algorithm: two of CHM, three of BDZ and BDZ_PH; BRZ builds by other schemes
abbrev pub HasEnds : ℕ → Algorithm → Type 0
HasEnds k Chm = k ≡ 2
HasEnds k Bdz = k ≡ 3
HasEnds k BdzPh = k ≡ 3
HasEnds k Brz = ⊥
