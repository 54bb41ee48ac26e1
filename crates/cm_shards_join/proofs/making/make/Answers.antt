use Rattle.std.proofs.Common.{◌≡◌, ◌∙◌, List, ap, sym, subst, Some, Ok}
use Rattle.cm_algo_names.specs.declared.algorithm.Algorithm.{Algorithm}
use Rattle.cm_route.specs.declared.route.TheConstants.{ROUTE_SEED}
use Rattle.cm_shards_join.specs.Taking.{join_of, manifest_of}
use Rattle.cm_shards_join.specs.Takings.{taken_by}
use Rattle.cm_shards_manifest.specs.Manifests.{IsManifest, Manifest}
use Rattle.cm_shards_manifest.specs.declared.shard.Shard.{Shard}
use Rattle.cm_shards_join.proofs.TakeLemmas.{ends_compare, ends_joined, is_manifest}
use Rattle.cm_shards_join.proofs.making.make.Goals as goal

pub returns-in-Err-compare-clause-ends : goal.returns-in-Err-compare-clause-ends
returns-in-Err-compare-clause-ends g c = λ x is.
    let refused = rw c.as_slice.ensures.value at (c.in-Err-compare.ensures.refused x (c.take_all.ensures.disk.files ∙ is)) in
    ends_compare c.args.job.now x (taken_by c.in-Ok.taking) c.in-Err-compare.stop (c.in-Ok.ensures.taken x is) refused c.in-Err-compare.ensures.named

pub returns-clause-ends : goal.returns-clause-ends
returns-clause-ends g c = λ x is.
    let shards : List Shard = c.in-Ok.taking.shards.items in
    let same = rw c.as_slice.ensures.value at (c.in-Ok-compare.ensures.same x (c.take_all.ensures.disk.files ∙ is)) in
    let joined = ends_joined c.args.job.now x (taken_by c.in-Ok.taking) (c.in-Ok.ensures.taken x is) same in
    let made : manifest_of (taken_by c.in-Ok.taking) ≡ c.new.result = ap (λ (a : Algorithm). let m : Manifest = record { algorithm = a; seed = ROUTE_SEED; shards = shards } in m) (sym c.algorithm_or-algorithm.ensures.algorithm) ∙ sym c.new.ensures.parts in
    let valid : IsManifest (record { algorithm = c.algorithm_or-algorithm.result; seed = ROUTE_SEED; shards = shards }) = is_manifest c.args.job.now c.algorithm_or-algorithm.result shards c.requires.job c.in-Ok.ensures.count c.in-Ok.ensures.taking.are in
    record {
      joined = subst (λ (m : Manifest). join_of c.args.job.now x ≡ Some (Ok m)) made joined;
      valid = subst IsManifest (sym c.new.ensures.parts) valid;
    }
