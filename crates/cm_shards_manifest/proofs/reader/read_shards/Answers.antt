use Rattle.std.proofs.Common.{◌≡◌, ◌∙◌, ℕ, ◌+◌, ◌-◌, List, [], ◌∷◌, ◌++◌, length, length-append, ap, sym, subst, arith, suc}
use Rattle.cm_dump_items.specs.Reading.{Fails}
use Rattle.cm_shards_manifest.specs.ManifestBytes.{shard_len, shards_len}
use Rattle.cm_shards_manifest.specs.ManifestItems.{shards_at}
use Rattle.cm_shards_manifest.specs.ManifestLaws.{len_push, shards_push, spans_push}
use Rattle.cm_shards_manifest.specs.Manifests.{AreShards, IsShard, spans}
use Rattle.cm_shards_manifest.specs.declared.shard.Shard.{Shard}
use Rattle.cm_shards_manifest.proofs.ShardLemmas.{after, left_fails, left_none, left_step}
use Rattle.cm_shards_manifest.proofs.reader.read_shards.Goals as goal

pub returns-in-Err-clause-exact : goal.returns-in-Err-clause-exact
returns-in-Err-clause-exact c =
    let k : ℕ = c.args.count - c.loop.counter in
    let more : k ≡ suc (c.args.count - (c.loop.counter + 1)) = omega (arith, c.loop-test.true) in
    subst (Fails c.in-Err.fault) (sym c.loop.invariant.left) (left_fails c.in-Err.fault c.args.file.now c.loop.at c.loop.before _ k c.loop.shards.items more c.in-Err.ensures.exact)

pub loop-preserved : goal.loop-preserved
loop-preserved c =
    let bytes = c.args.file.now in
    let s : Shard = c.in-Ok.shard in
    let done : List Shard = c.loop.shards.items in
    let k : ℕ = c.args.count - c.loop.counter in
    let n : ℕ = c.args.count - (c.loop.counter + 1) in
    let more : k ≡ suc n = omega (arith, c.loop-test.true) in
    let pushed : c.push.new.self.items ≡ done ++ s ∷ [] = c.in-Ok-push.ensures.items in
    let valid : IsShard s = c.in-Ok.ensures.valid in
    let len : 58 + length c.as_str.result.now ≡ shard_len s = ap (λ (l : List ℕ). 58 + length l) c.as_str.ensures.bytes in
    let spans_are : spans c.push.new.self.items ≡ spans done + s.span = ap spans pushed ∙ spans_push done s in
    let len_is : shards_len c.push.new.self.items ≡ shards_len done + shard_len s = ap shards_len pushed ∙ len_push done s in
    let offset : s.offset ≡ 0 + spans done = omega (arith, c.in-Ok.ensures.offset, c.loop.invariant.before) in
    let next : after done (shards_at bytes c.loop.at c.loop.before k) ≡ after (done ++ s ∷ []) (shards_at bytes (c.loop.at + shard_len s) (c.loop.before + s.span) n) = left_step bytes c.loop.at c.loop.before n k done s more c.in-Ok.ensures.exact in
    record {
      count = omega (arith, ap length pushed, length-append done (s ∷ []), c.loop.invariant.count);
      at = omega (arith, len, len_is, c.loop.invariant.at);
      near = omega (arith, len, valid.name.1, c.loop.invariant.near);
      before = omega (arith, spans_are, c.loop.invariant.before);
      few = omega (arith, c.loop.invariant.few, valid.span.1);
      valid = subst (AreShards 0) (sym pushed) (shards_push 0 done s c.loop.invariant.valid valid offset);
      left = c.loop.invariant.left ∙ next ∙ ap (λ (l : List Shard). after l (shards_at bytes (c.loop.at + shard_len s) (c.loop.before + s.span) n)) (sym pushed) ∙ ap (λ (m : ℕ). after c.push.new.self.items (shards_at bytes (c.loop.at + m) (c.loop.before + s.span) n)) (sym len);
    }

pub returns-clause-exact : goal.returns-clause-exact
returns-clause-exact c =
    let last : c.args.count - c.loop.counter ≡ 0 = omega (arith, c.loop-test.false) in
    c.loop.invariant.left ∙ left_none c.args.file.now c.loop.at c.loop.before (c.args.count - c.loop.counter) c.loop.shards.items last
