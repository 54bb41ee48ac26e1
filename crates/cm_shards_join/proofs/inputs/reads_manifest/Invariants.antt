use Rattle.std.proofs.Common.{◌≡◌, drop, length}
use Rattle.cm_shards_join.specs.Inputs.{ReadsManifest}
use Rattle.cm_shards_join.proofs.inputs.reads_manifest.Given as goal

abbrev pub invariant-loop-function : goal.invariant-loop-function
invariant-loop-function l = record {
  end : l.function-index-end ≡ length l.job.functions;
  found : ReadsManifest l.job.manifest (drop l.function-index l.job.functions) → ReadsManifest l.job.manifest l.job.functions;
  left : ReadsManifest l.job.manifest l.job.functions → ReadsManifest l.job.manifest (drop l.function-index l.job.functions);
}
