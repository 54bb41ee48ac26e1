use Rattle.std.proofs.Common.{◌≡◌, ◌*◌, map, take}
use Rattle.cm_route.specs.Routes.{shard_of}
use Rattle.cm_shards_files.proofs.shards.route_all.Given as goal

abbrev pub invariant-loop-i : goal.invariant-loop-i
invariant-loop-i l = l.shards.items ≡ map (shard_of l.route) (take (4 * l.i) l.keys)

abbrev pub invariant-loop-i-2 : goal.invariant-loop-i-2
invariant-loop-i-2 l = l.shards.items ≡ map (shard_of l.route) (take l.i l.keys)
