use Rattle.std.proofs.Common.{◌≡◌, ◌≤◌, length, map, vec_capacity}
use Rattle.cm_brz_split.specs.BucketPass.{AreHashed, keyed_in}
use Rattle.cm_brz_split.proofs.bucket_keys.BucketKeys.hash.Given as goal

abbrev pub invariant-loop-i : goal.invariant-loop-i
invariant-loop-i l =
    let now = l.self-inside in
    let before = l.initial.self-inside in
    record {
      bytes : now.bytes ≡ before.bytes;
      spots : now.spots ≡ before.spots;
      seeds : now.seeds ≡ before.seeds;
      given : now.given ≡ before.given;
      many : length now.words.items ≡ l.i;
      room : length now.spots.items ≤ vec_capacity now.words;
      hashed : AreHashed now.seeds (map (keyed_in now.bytes.items) now.spots.items) now.words.items;
    }
