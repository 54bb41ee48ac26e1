use Rattle.std.proofs.Common.{◌≡◌, ◌∙◌, ℕ, ◌+◌, ◌<◌, List, ◌++◌, length, take, get_or, ap, sym, subst, arith, append_assoc}
use Rattle.cm_shards_manifest.specs.ManifestBytes.{shard_bytes, shards_bytes}
use Rattle.cm_shards_manifest.specs.ManifestLaws.{bytes_more, shard_valid}
use Rattle.cm_shards_manifest.specs.Manifests.{IsShard}
use Rattle.cm_shards_manifest.specs.declared.shard.Shard.{Shard}
use Rattle.cm_shards_manifest.proofs.writer.put_shards.Goals as goal

pub put_shard-requires : goal.put_shard-requires
put_shard-requires c =
    let s : Shard = c.shard-item.result in
    let k : ℕ = c.loop-shard.shard-index in
    let shards : List Shard = c.args.manifest.now.shards in
    let are : c.shards-shard-items.result.now ≡ shards = c.shards-shard-items.ensures.shards in
    let inside : k < length shards = omega (arith, c.loop-shard-test.true, ap length are) in
    let item : get_or shards k s ≡ s = sym (c.shard-item.is ∙ ap (λ (l : List Shard). get_or l k s) are) in
    let valid : IsShard s = subst IsShard item (shard_valid 0 shards k s c.shards-shard-items.ensures.valid.shards inside) in
    record { name = valid.name.1 }

pub loop-shard-preserved : goal.loop-shard-preserved
loop-shard-preserved c =
    let s : Shard = c.shard-item.result in
    let k : ℕ = c.loop-shard.shard-index in
    let shards : List Shard = c.shards-shard-items.result.now in
    let inside : k < length shards = c.loop-shard-test.true in
    let item : get_or shards k s ≡ s = sym c.shard-item.is in
    let more : shards_bytes (take (k + 1) shards) ≡ shards_bytes (take k shards) ++ shard_bytes s = bytes_more shards k s inside ∙ ap (λ (t : Shard). shards_bytes (take k shards) ++ shard_bytes t) item in
    c.in_ok-put_shard.ensures.bytes ∙ ap (λ (l : List ℕ). l ++ shard_bytes s) c.loop-shard.invariant ∙ append_assoc c.args.file.now.items (shards_bytes (take k shards)) (shard_bytes s) ∙ ap (λ (l : List ℕ). c.args.file.now.items ++ l) (sym more)
