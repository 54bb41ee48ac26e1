-- A function that was loaded, with the sum of the bytes of its file.
use Rattle.std.specs.Prelude.{◌==◌, Result, Ok, Err, if◌then◌else◌}
use Rattle.cm_dump_items.specs.declared.fault.LoadFault.{LoadFault}
use Rattle.cm_func.specs.declared.function.Func.{Func}
use Rattle.cm_shards_files.specs.Hashing.{most_counted}
use Rattle.cm_shards_files.specs.declared.file.FunctionFile.{FunctionFile}
use Rattle.cm_shards_files.specs.declared.hashed.Sum.{Sum}
use Rattle.cm_tool_asking.specs.declared.unloaded.Unloaded.{Unloaded}
use Rattle.cm_tool_asking.specs.declared.unloaded.Unloaded.TheVariants.{Memory}

abbrev pub with_sum : Result Func (Unloaded LoadFault) → Sum → Result FunctionFile (Unloaded LoadFault)
with_sum (Ok f) sum = if sum.len == most_counted then Err Memory else Ok (record { function = f; len = sum.len; digest = sum.digest })
with_sum (Err fault) sum = Err fault
