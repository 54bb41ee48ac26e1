use Rattle.std.proofs.Common.{◌≡◌, ◌≤◌, ◌+◌, ◌-◌, ◌++◌, ℕ, List, length, drop}
use Rattle.std.specs.Option.{ForSome}
use Rattle.cm_spill.specs.Reading.{IsAhead}
use Rattle.cm_spill.proofs.ahead.Ahead.take.Given as goal

abbrev pub invariant-pieces : goal.invariant-pieces
invariant-pieces g l =
    let told = g.P.Spill.told in
    let old = l.fn.self in
    let new = l.self in
    record {
      same : told l.spill ≡ told l.fn.spill;
      quiet : g.P.Spill.faults l.spill ≡ g.P.Spill.faults l.fn.spill;
      room : new.room ≡ old.room;
      at : new.at ≡ old.at + length l.buf.items;
      few : length l.buf.items ≤ l.len;
      order : (more : List ℕ) × (old.ready ++ more ≡ l.buf.items ++ new.ready);
      bytes : ForSome (told l.fn.spill) (λ bytes. IsAhead bytes old → IsAhead bytes new × (drop old.at bytes ≡ l.buf.items ++ drop new.at bytes));
    }

abbrev pub decreases-pieces : goal.decreases-pieces
decreases-pieces g l = l.len - length l.buf.items
