use Rattle.std.proofs.Common.{◌≡◌, ◌∙◌, ℕ, ◌+◌, ◌<◌, List, length, take, get_or, ap, sym, subst, arith}
use Rattle.cm_shards_manifest.specs.ManifestLaws.{shard_valid, spans_more}
use Rattle.cm_shards_manifest.specs.Manifests.{AreShards, IsShard, Manifest, spans}
use Rattle.cm_shards_manifest.specs.declared.shard.Shard.{Shard}
use Rattle.cm_shards_manifest.proofs.manifest.Manifest.total.Goals as goal

pub loop-shard-preserved : goal.loop-shard-preserved
loop-shard-preserved c =
    let s : Shard = c.shard-item.result in
    let k : ℕ = c.loop-shard.shard-index in
    let shards : List Shard = c.args.self.now.shards in
    let same : c.self.inside.shards.items ≡ shards = ap (λ (m : Manifest). m.shards) c.self.view_is in
    let are : c.deref-shard-items.result.now ≡ shards = c.deref-shard-items.ensures.value ∙ same in
    let inside : k < length shards = omega (arith, c.loop-shard-test.true, ap length are) in
    let item : get_or shards k s ≡ s = sym (c.shard-item.is ∙ ap (λ (l : List Shard). get_or l k s) are) in
    let valid : IsShard s = subst IsShard item (shard_valid 0 shards k s (subst (AreShards 0) same c.self.invariant.shards) inside) in
    let sum : spans (take (k + 1) shards) ≡ spans (take k shards) + s.span = spans_more shards k s inside ∙ ap (λ (t : Shard). spans (take k shards) + t.span) item in
    record {
      sum = omega (arith, sum, c.loop-shard.invariant.sum);
      few = omega (arith, c.loop-shard.invariant.few, valid.span.1);
    }
