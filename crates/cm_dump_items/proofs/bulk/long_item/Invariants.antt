use Rattle.std.proofs.Common.{◌≡◌, ◌≤◌, ◌+◌, ◌-◌, length, take, drop}
use Rattle.std.specs.Option.{ForSome}
use Rattle.cm_dump_items.specs.Reading.{IsAt}
use Rattle.cm_dump_items.proofs.bulk.long_item.Given as goal

abbrev pub invariant-loop-done : goal.invariant-loop-done
invariant-loop-done g l =
    let told = g.S.Source.told in
    record {
      same : told l.source ≡ told l.fn.source;
      quiet : g.S.Source.faults l.source ≡ g.S.Source.faults l.fn.source;
      inside : l.done ≤ l.n;
      size : length l.all.items ≡ l.done;
      at : IsAt (told l.source) (g.S.Source.place l.source) (l.at + l.done);
      bytes : ForSome (told l.source) (λ bytes. l.all.items ≡ take l.done (drop l.at bytes));
    }

abbrev pub decreases-loop-done : goal.decreases-loop-done
decreases-loop-done g l = l.n - l.done
