use Rattle.std.proofs.Common.{◌≡◌, ◌⊎◌, ◌<◌, ◌-◌, ◌≤◌, ◌++◌, ℕ, List, length, take, drop, true, false}
use Rattle.std.specs.Option.{ForSome}
use Rattle.cm_bdz.specs.Functions.{bdz_answer}
use Rattle.cm_io.specs.Noting.{Noted}
use Rattle.cm_query_batch.specs.Waiting.{AreAnswers}
use Rattle.cm_spec.specs.declared.limits.TheConstants.{MAX_KEYS}
use Rattle.cm_store_values.specs.Written.{store_replies}
use Rattle.cm_tool_asking.specs.Meanings.{notes_of}
use Rattle.cm_tool_asking.specs.PassLaws.{SoFar}
use Rattle.cm_store_values.proofs.values.write_values.Given as goal

abbrev pub invariant-keys : goal.invariant-keys
invariant-keys g l =
    let P = g.P.KeyPass in
    let O = g.O.Sink in
    let E = g.E.Sink in
    let done = P.place l.keys - length l.batch.keys in
    record {
      ready : P.usable l.keys ≡ true;
      same : P.told l.keys ≡ P.told l.fn.keys;
      quiet : P.faults l.keys ≡ P.faults l.fn.keys;
      quiet_out : (O.state l.out).faults ≡ (O.state l.fn.out).faults;
      few : P.place l.keys ≤ MAX_KEYS;
      waits : length l.batch.keys ≤ P.place l.keys;
      sent : (O.state l.fn.out).waits ≡ 0 → (0 < length l.batch.keys) ⊎ (((key : List ℕ) × P.stands l.keys key) ⊎ ((O.state l.out).waits ≡ 0));
      notes_sent : (l.fn.notes ≡ false → (E.state l.fn.err).waits ≡ 0) → l.notes ≡ false → (E.state l.err).waits ≡ 0;
      says : (text : List ℕ) × Noted l.fn.notes l.notes (E.state l.fn.err) (E.state l.err) text;
      answered : AreAnswers (bdz_answer l.store.index) l.store.index.keys l.batch;
      ahead : ForSome (P.told l.fn.keys) (λ told. drop done told.keys ≡ l.batch.keys ++ drop (P.place l.keys) told.keys);
      so_far : ForSome (P.told l.fn.keys) (λ told. SoFar (store_replies l.store l.end) (take done told.keys) l.complete (O.state l.fn.out).written (O.state l.out).written);
      noted : ForSome (P.told l.fn.keys) (λ told. Noted l.fn.notes l.notes (E.state l.fn.err) (E.state l.err) (notes_of (store_replies l.store l.end) (take done told.keys)));
    }

abbrev pub decreases-keys : goal.decreases-keys
decreases-keys g l = MAX_KEYS - (g.P.KeyPass.place l.keys - length l.batch.keys)
