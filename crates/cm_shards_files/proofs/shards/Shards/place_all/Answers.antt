use Rattle.std.proofs.Common.{◌≡◌, ◌∙◌, ◌<◌, [], length, get_or, refl, arith}
use Rattle.cm_shards_files.specs.Shards.{place_in}
use Rattle.cm_shards_files.proofs.MapLemmas.{one_more}
use Rattle.cm_shards_files.proofs.RouteLemmas.{shard_at, shard_inside}
use Rattle.cm_shards_files.proofs.shards.Shards.place_all.Goals as goal

pub place_of-requires : goal.place_of-requires
place_of-requires c =
    let s = c.args.self.now in
    let keys = c.args.keys.now in
    let i = c.loop-i.i in
    let inside : i < length keys = omega (arith, c.loop-i-test.true, c.len-i-end.ensures.len) in
    record { inside = omega (arith, shard_at s keys c.args.shards.now i c.requires.shards inside, shard_inside s (get_or keys i []) c.shards.ensures.sharded) }

pub loop-i-preserved : goal.loop-i-preserved
loop-i-preserved c =
    let s = c.args.self.now in
    let keys = c.args.keys.now in
    let i = c.loop-i.i in
    let inside : i < length keys = omega (arith, c.loop-i-test.true, c.len-i-end.ensures.len) in
    let placed : c.place_of.result ≡ place_in s (get_or keys i []) = c.place_of.ensures.place ∙ rw (c.key.ensures.key [], shard_at s keys c.args.shards.now i c.requires.shards inside) refl in
    c.push.ensures.items ∙ rw (c.loop-i.invariant, placed) (one_more (place_in s) keys i [] inside)
