use Rattle.std.proofs.Common.{◌≡◌, ◌<◌, ◌≤◌, ◌*◌, ℕ, length, slice_index, take}
use Rattle.std.specs.List.{sum_by}
use Rattle.cm_func.specs.Functions.{span_by}
use Rattle.cm_shards_files.specs.Shards.{offset_of}
use Rattle.cm_spec.specs.declared.limits.TheConstants.{MAX_VERTICES}
use Rattle.cm_shards_files.proofs.shards.sum_spans.Given as goal

abbrev pub invariant-loop-function : goal.invariant-loop-function
invariant-loop-function l = record {
  sum : l.sum ≡ sum_by span_by (take l.function-index l.functions);
  bound : l.sum ≤ l.function-index * MAX_VERTICES;
  many : length l.offsets.items ≡ l.function-index;
  offsets : (k : ℕ) → k < l.function-index → slice_index l.offsets.items k ≡ offset_of l.functions k;
}
