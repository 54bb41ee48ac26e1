use Rattle.std.proofs.Common.{◌≡◌, ◌<◌, map, take}
use Rattle.std.specs.Prelude.{All, IfSome}
use Rattle.cm_shards_files.specs.Shards.{number_in, total_of}
use Rattle.cm_shards_files.proofs.shards.Shards.numbers.Given as goal

abbrev pub invariant-loop-i : goal.invariant-loop-i
invariant-loop-i l = record {
  are : l.numbers.items ≡ map (number_in l.self) (take l.i l.keys);
  below : All (λ a. IfSome a (λ n. n < total_of l.self)) l.numbers.items;
}
