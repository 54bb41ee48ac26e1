use Rattle.std.proofs.Common.{◌≡◌, ◌≤◌, ◌+◌, ◌-◌, length, take, drop}
use Rattle.std.specs.Option.{ForSome}
use Rattle.cm_dump_items.specs.Reading.{IsAt}
use Rattle.cm_dump_items.proofs.items.fill.Given as goal

abbrev pub invariant-loop-got : goal.invariant-loop-got
invariant-loop-got g l =
    let told = g.S.Source.told in
    record {
      same : told l.source ≡ told l.fn.source;
      quiet : g.S.Source.faults l.source ≡ g.S.Source.faults l.fn.source;
      size : length l.buf ≡ length l.fn.buf;
      inside : l.got ≤ length l.buf;
      at : IsAt (told l.source) (g.S.Source.place l.source) (l.at + l.got);
      bytes : ForSome (told l.source) (λ bytes. take l.got l.buf ≡ take l.got (drop l.at bytes));
    }

abbrev pub decreases-loop-got : goal.decreases-loop-got
decreases-loop-got g l = length l.buf - l.got
