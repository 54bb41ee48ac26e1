use Rattle.std.proofs.Common.{◌≡◌, ◌≤◌, length, drop}
use Rattle.cm_store.proofs.checking.bad_record.Given as goal
use Rattle.cm_store.specs.Stores.{Store, first_bad, offset_of}

abbrev pub invariant-records : goal.invariant-records
invariant-records l =
    let s : Store = record { index = l.index; places = l.places.items.items; bytes = l.bytes } in
    record {
      inside : l.at ≤ length l.bytes;
      rest : first_bad (offset_of s) 0 l.index.keys l.bytes ≡ first_bad (offset_of s) l.at l.left (drop l.at l.bytes);
    }

abbrev pub decreases-records : goal.decreases-records
decreases-records l = l.left
