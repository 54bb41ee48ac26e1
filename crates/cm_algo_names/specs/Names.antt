-- The names of the algorithms.
use Rattle.std.specs.Prelude.{ℕ, List, codes}
use Rattle.cm_algo_names.specs.declared.algorithm.Algorithm.{Algorithm}
use Rattle.cm_algo_names.specs.declared.algorithm.Algorithm.TheVariants.{Chm, Bdz, BdzPh, Brz}

-- the name of an algorithm, in command lines and reports
abbrev pub name_of : Algorithm → List ℕ
name_of Chm = codes "chm"
name_of Bdz = codes "bdz"
name_of BdzPh = codes "bdz_ph"
name_of Brz = codes "brz"
