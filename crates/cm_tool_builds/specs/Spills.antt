-- What a build does to the disk's spill.
use Rattle.std.specs.Prelude.{◌≡◌, ℕ, List, length, Option, Some}
use Rattle.cm_algo_names.specs.declared.algorithm.Algorithm.{Algorithm}
use Rattle.cm_algo_names.specs.declared.algorithm.Algorithm.TheVariants.{Brz}
use Rattle.cm_brz_split.specs.Puts.{records_under}
use Rattle.cm_brz_split.specs.Spilled.{AreSpilled}
use Rattle.cm_func.specs.declared.function.Func.{Func}
use Rattle.cm_func.specs.declared.function.Func.TheVariants as func

-- this holds, unless the algorithm is BRZ, which alone uses a spill
abbrev pub UnlessSpilled : Algorithm → Type 0 → Type 0
UnlessSpilled Brz P = Unit {0}
UnlessSpilled algorithm P = P

-- The bytes of the spill that was handed back are the records of the keys, for a function by BRZ: each key once, with its line and its
-- bucket. For the others none was handed back.
abbrev pub HasSpilled : Func → List (ℕ × List ℕ) → Option (List ℕ) → Option (List ℕ) → Type 0
HasSpilled (func.Brz f) keys old new = (bytes : List ℕ) × (new ≡ Some bytes) × AreSpilled bytes (records_under keys (length f.buckets) f.split)
HasSpilled (func.Chm f) keys old new = new ≡ old
HasSpilled (func.Bdz f) keys old new = new ≡ old
HasSpilled (func.BdzPh f) keys old new = new ≡ old
