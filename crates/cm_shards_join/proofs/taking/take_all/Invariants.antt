use Rattle.std.proofs.Common.{◌≡◌, length, take, Some, Ok}
use Rattle.std.specs.Option.{ForSome}
use Rattle.cm_shards_files.specs.Loading.{ChangesNoFile}
use Rattle.cm_shards_join.specs.Taking.{nothing, take_all}
use Rattle.cm_shards_join.specs.Takings.{IsTaking, taken_by}
use Rattle.cm_shards_join.proofs.taking.take_all.Given as goal

-- the functions of the first arguments are taken, and no file is changed
abbrev pub invariant-loop-function : goal.invariant-loop-function
invariant-loop-function g l = record {
  disk : ChangesNoFile (g.D.Disk.state l.fn.disk) (g.D.Disk.state l.disk);
  read_faults : (g.D.Disk.state l.disk).read_faults ≡ (g.D.Disk.state l.fn.disk).read_faults;
  taking : IsTaking l.taking;
  count : length l.taking.shards.items ≡ l.function-index;
  end : l.function-index-end ≡ length l.job.functions;
  taken : ForSome (g.D.Disk.state l.fn.disk).files (λ files. take_all files l.job.manifest nothing (take l.function-index l.job.functions) ≡ Some (Ok (taken_by l.taking)));
}
