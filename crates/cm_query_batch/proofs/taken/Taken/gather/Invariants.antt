use Rattle.std.proofs.Common.{◌≡◌, ◌+◌, ◌-◌, ◌≤◌, length, true}
use Rattle.std.specs.Option.{ForSome}
use Rattle.cm_spec.specs.declared.limits.TheConstants.{MAX_KEYS}
use Rattle.cm_query_batch.specs.Waiting.{Takes}
use Rattle.cm_query_batch.specs.declared.taken.TheConstants.{MOST_KEYS}
use Rattle.cm_query_batch.proofs.taken.Taken.gather.Given as goal

abbrev pub invariant-more : goal.invariant-more
invariant-more g l =
    let P = g.P.KeyPass in
    record {
      ready : P.usable l.keys ≡ true;
      same : P.told l.keys ≡ P.told l.fn.keys;
      quiet : P.faults l.keys ≡ P.faults l.fn.keys;
      few : P.place l.keys ≤ MAX_KEYS;
      some : length l.fn.self.keys ≤ length l.self.keys;
      counts : P.place l.keys + length l.fn.self.keys ≡ P.place l.fn.keys + length l.self.keys;
      takes : ForSome (P.told l.fn.keys) (λ told. Takes told (P.place l.fn.keys) (P.place l.keys) l.fn.self.keys l.self.keys);
    }

abbrev pub decreases-more : goal.decreases-more
decreases-more g l = MOST_KEYS - length l.self.keys
