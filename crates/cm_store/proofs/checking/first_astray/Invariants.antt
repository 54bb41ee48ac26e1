use Rattle.std.proofs.Common.{◌≡◌, drop}
use Rattle.cm_store.proofs.checking.first_astray.Given as goal
use Rattle.cm_store.specs.Numbers.{astray_of}

abbrev pub invariant-records : goal.invariant-records
invariant-records l = record {
  rest : astray_of l.places.items.items l.at l.some ≡ astray_of l.places.items.items l.from (drop l.numbered-index l.some);
}
