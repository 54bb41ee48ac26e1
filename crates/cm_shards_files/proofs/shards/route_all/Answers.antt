use Rattle.std.proofs.Common.{rules, ◌≡◌, ◌∙◌, ◌+◌, ◌*◌, ◌<◌, ◌++◌, ◌∷◌, ℕ, [], length, arith}
use Rattle.std.specs.Prelude.{slice_index_or}
use Rattle.cm_route.specs.Routes.{shard_of}
use Rattle.cm_shards_files.proofs.MapLemmas.{four_more, one_more}
use Rattle.cm_shards_files.proofs.shards.route_all.Goals as goal

pub loop-i-preserved : goal.loop-i-preserved
loop-i-preserved c =
    let f = shard_of c.args.route.now in
    let keys = c.args.keys.now in
    let first = 4 * c.loop-i.i in
    let four = c.places_of_four-four.result in
    let at = λ (n : ℕ). slice_index_or (slice_index_or four n []) 0 0 in
    let found = at 0 ∷ at 1 ∷ at 2 ∷ at 3 ∷ [] in
    let grown : c.try_extend_from_slice.new.self.items ≡ c.loop-i.shards.items ++ found = search rules in
    grown ∙ rw (c.loop-i.invariant, c.places_of_four-four.ensures.places, c.key.ensures.key [], c.key-in-loop-i.ensures.key [], c.key-in-loop-i-2.ensures.key [], c.key-in-loop-i-3.ensures.key [])
    (four_more f keys first (4 * (c.loop-i.i + 1)) [] (omega arith) (omega (arith, c.loop-i-test.true, c.len-fours.ensures.len)))

pub loop-i-2-preserved : goal.loop-i-2-preserved
loop-i-2-preserved c =
    let f = shard_of c.args.route.now in
    let keys = c.args.keys.now in
    let inside : c.loop-i-2.i < length keys = omega (arith, c.loop-i-2-test.true, c.len-i-end.ensures.len) in
    c.push.ensures.items ∙ rw (c.loop-i-2.invariant, c.shard.ensures.shard, c.key-in-loop-i-2-2.ensures.key []) (one_more f keys c.loop-i-2.i [] inside)
