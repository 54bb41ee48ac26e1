-- The functions that the worked examples are about.
use Rattle.std.specs.Prelude.{ℕ, List, [], ◌∷◌, codes, replicate}
use Rattle.cm_func.specs.declared.function.Func.{Func}
use Rattle.cm_func.specs.declared.function.Func.TheVariants as func
use Rattle.cm_route.specs.declared.route.TheConstants.{ROUTE_SEED}
use Rattle.cm_shards_files.specs.Shards.{Sharded}
use Rattle.cm_shards_files.specs.declared.file.FunctionFile.{FunctionFile}
use Rattle.cm_shards_manifest.specs.declared.shard.Shard.{Shard}

-- a function by CHM of `b` and `apple`, and one of `a`
abbrev pub of_two : Func
of_two = func.Chm (record { keys = 2; ratio = 2090000; seed = 0; cells = 0 ∷ 0 ∷ 0 ∷ 0 ∷ 1 ∷ [] })

abbrev pub of_one : Func
of_one = func.Chm (record { keys = 1; ratio = 2090000; seed = 0; cells = 0 ∷ 0 ∷ 0 ∷ [] })

-- the three keys in two shards
abbrev pub two_shards : Sharded
two_shards = record { route = record { seed = ROUTE_SEED; shards = 2 }; functions = of_two ∷ of_one ∷ [] }

-- the same functions in the wrong order
abbrev pub turned : Sharded
turned = record { route = record { seed = ROUTE_SEED; shards = 2 }; functions = of_one ∷ of_two ∷ [] }

-- five functions of as many keys as one can have
abbrev pub of_most : Func
of_most = func.Bdz (record { keys = 872000000; ratio = 1230000; seed = 0; shift = 7; cells = [] })

abbrev pub five : List Func
five = of_most ∷ of_most ∷ of_most ∷ of_most ∷ of_most ∷ []

-- a function file of 27 bytes, and what a manifest says of it
abbrev pub file_of_one : ℕ → FunctionFile
file_of_one len = record { function = of_one; len = len; digest = replicate 32 7 }

abbrev pub shard_of_one : ℕ → ℕ → ℕ → Shard
shard_of_one keys span byte = record { name = codes "one.mph"; keys = keys; span = span; offset = 0; len = 27; digest = 7 ∷ byte ∷ replicate 30 7 }
