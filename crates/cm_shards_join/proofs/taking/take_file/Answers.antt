use Rattle.std.proofs.Common.{◌≡◌, ◌∙◌, ◌+◌, List, [], ◌∷◌, ◌++◌, length, length-append, ap, sym, subst, arith}
use Rattle.cm_shards_manifest.specs.ManifestLaws.{shards_push, spans_push}
use Rattle.cm_shards_manifest.specs.Manifests.{AreShards, IsShard, spans}
use Rattle.cm_shards_manifest.specs.declared.shard.Shard.{Shard}
use Rattle.cm_shards_join.proofs.taking.take_file.Goals as goal

pub returns-clause-taking : goal.returns-clause-taking
returns-clause-taking c =
    let s : Shard = c.shard_of-shard.result in
    let done : List Shard = c.args.taking.now.shards.items in
    let was = c.requires.taking in
    let pushed : c.push.new.self.items ≡ done ++ s ∷ [] = c.in-Ok.ensures.items in
    let valid : IsShard s = c.shard_of-shard.ensures.valid in
    let offset : s.offset ≡ 0 + spans done = omega (arith, ap (λ (t : Shard). t.offset) c.shard_of-shard.ensures.shard, was.total) in
    let sum : spans c.push.new.self.items ≡ spans done + s.span = ap spans pushed ∙ spans_push done s in
    let size : length c.push.new.self.items ≡ length done + 1 = omega (arith, ap length pushed, length-append done (s ∷ [])) in
    record {
      are = subst (AreShards 0) (sym pushed) (shards_push 0 done s was.are valid offset);
      total = omega (arith, sum, was.total);
      few = omega (arith, size, was.few, valid.span.1);
    }
