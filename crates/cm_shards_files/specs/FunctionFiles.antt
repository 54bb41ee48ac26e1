-- What a function file is: the function that its bytes spell, how many bytes it has, and their digest.
use Rattle.std.specs.Prelude.{ℕ, Bool, true, false, List, length, Result, Ok, Err}
use Rattle.cm_algo_names.specs.declared.algorithm.Algorithm.{Algorithm}
use Rattle.cm_algo_names.specs.declared.algorithm.Algorithm.TheVariants as algorithm
use Rattle.cm_dump.specs.Spelling.{spelling_of}
use Rattle.cm_dump_items.specs.declared.fault.LoadFault.{LoadFault}
use Rattle.cm_func.specs.declared.function.Func.{Func}
use Rattle.cm_func.specs.declared.function.Func.TheVariants as func
use Rattle.cm_shards_files.specs.declared.file.FunctionFile.{FunctionFile}
use Rattle.sha2.specs.Sha256.{sha256}

-- how many keys a function was built over
abbrev pub keys_by : Func → ℕ
keys_by (func.Chm f) = f.keys
keys_by (func.Bdz f) = f.keys
keys_by (func.BdzPh f) = f.keys
keys_by (func.Brz f) = f.keys

-- the algorithm that built it
abbrev pub algorithm_by : Func → Algorithm
algorithm_by (func.Chm f) = algorithm.Chm
algorithm_by (func.Bdz f) = algorithm.Bdz
algorithm_by (func.BdzPh f) = algorithm.BdzPh
algorithm_by (func.Brz f) = algorithm.Brz

-- whether an algorithm built it
abbrev pub is_by : Algorithm → Func → Bool
is_by algorithm.Chm (func.Chm f) = true
is_by algorithm.Bdz (func.Bdz f) = true
is_by algorithm.BdzPh (func.BdzPh f) = true
is_by algorithm.Brz (func.Brz f) = true
is_by a f = false

-- the function of a file of these bytes, or their first fault
abbrev pub with_digest : List ℕ → Result Func LoadFault → Result FunctionFile LoadFault
with_digest bytes (Ok f) = Ok (record { function = f; len = length bytes; digest = sha256 bytes })
with_digest bytes (Err fault) = Err fault

abbrev pub function_file_in : List ℕ → Result FunctionFile LoadFault
function_file_in bytes = with_digest bytes (spelling_of bytes)
