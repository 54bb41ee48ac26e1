use Rattle.std.proofs.Common.{◌≡◌, map, take}
use Rattle.cm_shards_files.specs.Shards.{place_in}
use Rattle.cm_shards_files.proofs.shards.Shards.place_all.Given as goal

abbrev pub invariant-loop-i : goal.invariant-loop-i
invariant-loop-i l = l.places.items ≡ map (place_in l.self) (take l.i l.keys)
