use Rattle.std.proofs.Common.{◌≡◌, length, take, Some, Ok}
use Rattle.std.specs.Prelude.{All}
use Rattle.std.specs.Option.{ForSome}
use Rattle.cm_func.specs.Functions.{IsFunction}
use Rattle.cm_shards_files.specs.Loading.{ChangesNoFile, functions_of}
use Rattle.cm_shards_files.proofs.loading.load_functions.Given as goal

abbrev pub invariant-loop-shard : goal.invariant-loop-shard
invariant-loop-shard g l =
    let D = g.D.Disk in
    record {
      disk : ChangesNoFile (D.state l.fn.disk) (D.state l.disk);
      read_faults : (D.state l.disk).read_faults ≡ (D.state l.fn.disk).read_faults;
      loads : ForSome (D.state l.fn.disk).files (λ files. functions_of files l.manifest l.algorithm (take l.shard-index l.shards) ≡ Some (Ok l.functions.items));
      valid : All IsFunction l.functions.items;
      each : length l.functions.items ≡ l.shard-index;
    }
