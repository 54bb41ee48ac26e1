use Rattle.std.proofs.Common.{◌≡◌, ◌≤◌, ◌-◌, length, true}
use Rattle.std.specs.Option.{ForSome}
use Rattle.cm_spec.specs.declared.limits.TheConstants.{MAX_KEYS}
use Rattle.cm_store_records.proofs.ReadLemmas.{HoldsFirst}
use Rattle.cm_store_records.proofs.read.read_records.Given as goal
use Rattle.cm_store_records.specs.RecordPass.{line_before}

abbrev pub invariant-lines : goal.invariant-lines
invariant-lines g l =
    let P = g.P.KeyPass in
    record {
      ready : P.usable l.lines ≡ true;
      same : P.told l.lines ≡ P.told l.fn.lines;
      quiet : P.faults l.lines ≡ P.faults l.fn.lines;
      at : P.place l.lines ≡ length l.records.lines;
      few : length l.records.lines ≤ MAX_KEYS;
      last : line_before l.records.lines (length l.records.lines) ≤ P.last l.lines;
      holds : ForSome (P.told l.fn.lines) (λ told. HoldsFirst told (length l.records.lines) l.records);
    }

abbrev pub decreases-lines : goal.decreases-lines
decreases-lines g l = MAX_KEYS - length l.records.lines
