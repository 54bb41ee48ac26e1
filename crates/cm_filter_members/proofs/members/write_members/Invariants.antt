use Rattle.std.proofs.Common.{◌≡◌, ◌⊎◌, ◌<◌, ◌-◌, ◌≤◌, ◌++◌, ℕ, List, length, take, drop, true}
use Rattle.std.specs.Option.{ForSome}
use Rattle.cm_filter.specs.Filters.{filter_answer}
use Rattle.cm_filter_members.specs.Written.{filter_replies}
use Rattle.cm_query_batch.specs.Waiting.{AreAnswers}
use Rattle.cm_spec.specs.declared.limits.TheConstants.{MAX_KEYS}
use Rattle.cm_tool_asking.specs.PassLaws.{SoFar}
use Rattle.cm_filter_members.proofs.members.write_members.Given as goal

abbrev pub invariant-keys : goal.invariant-keys
invariant-keys g l =
    let P = g.P.KeyPass in
    let O = g.O.Sink in
    let done = P.place l.keys - length l.batch.keys in
    record {
      ready : P.usable l.keys ≡ true;
      same : P.told l.keys ≡ P.told l.fn.keys;
      quiet : P.faults l.keys ≡ P.faults l.fn.keys;
      quiet_out : (O.state l.out).faults ≡ (O.state l.fn.out).faults;
      few : P.place l.keys ≤ MAX_KEYS;
      waits : length l.batch.keys ≤ P.place l.keys;
      sent : (O.state l.fn.out).waits ≡ 0 → (0 < length l.batch.keys) ⊎ (((key : List ℕ) × P.stands l.keys key) ⊎ ((O.state l.out).waits ≡ 0));
      answered : AreAnswers (filter_answer l.filter) 1 l.batch;
      ahead : ForSome (P.told l.fn.keys) (λ told. drop done told.keys ≡ l.batch.keys ++ drop (P.place l.keys) told.keys);
      so_far : ForSome (P.told l.fn.keys) (λ told. SoFar (filter_replies l.filter l.end) (take done told.keys) l.complete (O.state l.fn.out).written (O.state l.out).written);
    }

abbrev pub decreases-keys : goal.decreases-keys
decreases-keys g l = MAX_KEYS - (g.P.KeyPass.place l.keys - length l.batch.keys)
