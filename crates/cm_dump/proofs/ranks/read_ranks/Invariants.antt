use Rattle.std.proofs.Common.{◌≡◌, ◌≤◌, ◌+◌, ◌-◌, ◌*◌, take, Ok}
use Rattle.std.specs.Option.{ForSome}
use Rattle.cm_dump_items.specs.Reading.{IsAt}
use Rattle.cm_dump.specs.Spelling.{ranks_at}
use Rattle.cm_dump.proofs.ranks.read_ranks.Given as goal

abbrev pub invariant-loop-done : goal.invariant-loop-done
invariant-loop-done g l =
    let told = g.S.Source.told in
    record {
      same : told l.source ≡ told l.fn.source;
      quiet : g.S.Source.faults l.source ≡ g.S.Source.faults l.fn.source;
      within : l.done ≤ l.entries;
      at : IsAt (told l.source) (g.S.Source.place l.source) (l.at + 4 * l.done);
      right : ForSome (told l.source) (λ bytes. ranks_at bytes l.at (take l.done l.ranks.ranks) ≡ Ok tt);
    }

abbrev pub decreases-loop-done : goal.decreases-loop-done
decreases-loop-done g l = l.entries - l.done
