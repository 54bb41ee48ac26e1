use Rattle.std.proofs.Common.{◌≡◌, ◌≤◌, ◌*◌, take}
use Rattle.std.specs.List.{sum_by}
use Rattle.cm_shards_files.specs.FunctionFiles.{keys_by}
use Rattle.cm_spec.specs.declared.limits.TheConstants.{MAX_KEYS}
use Rattle.cm_shards_files.proofs.shards.sum_keys.Given as goal

abbrev pub invariant-loop-function : goal.invariant-loop-function
invariant-loop-function l = record {
  sum : l.sum ≡ sum_by keys_by (take l.function-index l.functions);
  bound : l.sum ≤ l.function-index * MAX_KEYS;
}
