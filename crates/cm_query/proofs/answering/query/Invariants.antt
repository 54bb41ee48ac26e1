use Rattle.std.proofs.Common.{◌≡◌, ◌⊎◌, ◌<◌, ◌+◌, ◌-◌, ◌≤◌, ◌++◌, ℕ, List, length, take, drop, true, false}
use Rattle.std.specs.Option.{ForSome}
use Rattle.cm_io.specs.Noting.{Noted}
use Rattle.cm_io.specs.Writing.{then_bytes}
use Rattle.cm_spec.specs.declared.limits.TheConstants.{MAX_KEYS}
use Rattle.cm_query.proofs.ProgressLemmas.{SoFar}
use Rattle.cm_query.specs.Marks.{AreMarks}
use Rattle.cm_query_batch.specs.Waiting.{AreAnswers}
use Rattle.cm_query.proofs.answering.query.Given as goal

abbrev pub invariant-keys : goal.invariant-keys
invariant-keys g l =
    let P = g.P.KeyPass in
    let O = g.O.Sink in
    let E = g.E.Sink in
    let A = g.A.Answers in
    record {
      ready : P.usable l.keys ≡ true;
      same : P.told l.keys ≡ P.told l.fn.keys;
      quiet : P.faults l.keys ≡ P.faults l.fn.keys;
      quiet_out : (O.state l.out).faults ≡ (O.state l.fn.out).faults;
      at : P.place l.keys ≡ l.tally.lines + length l.batch.keys;
      few : P.place l.keys ≤ MAX_KEYS;
      counts : l.tally.repeated + l.tally.unknown ≤ l.tally.lines;
      size : length l.marks.cells ≡ A.span_of l.function;
      sent : (O.state l.fn.out).waits ≡ 0 → (0 < length l.batch.keys) ⊎ (((key : List ℕ) × P.stands l.keys key) ⊎ ((O.state l.out).waits ≡ 0));
      notes_sent : (l.fn.notes ≡ false → (E.state l.fn.err).waits ≡ 0) → l.notes ≡ false → (E.state l.err).waits ≡ 0;
      text : (text : List ℕ) × ((O.state l.out).written ≡ then_bytes (O.state l.fn.out).written text);
      says : (text : List ℕ) × Noted l.fn.notes l.notes (E.state l.fn.err) (E.state l.err) text;
      answered : AreAnswers (A.answer_of l.function) (A.span_of l.function) l.batch;
      ahead : ForSome (P.told l.fn.keys) (λ told. drop l.tally.lines told.keys ≡ l.batch.keys ++ drop (P.place l.keys) told.keys);
      marked : ForSome (P.told l.fn.keys) (λ told. AreMarks (A.answer_of l.function) (take l.tally.lines told.keys) l.batch.keys l.marks);
      so_far : ForSome (P.told l.fn.keys) (λ told. (l.tally.lines ≤ length told.keys)
          × SoFar l.end (A.answer_of l.function) (take l.tally.lines told.keys) l.tally (O.state l.fn.out).written (O.state l.out).written l.fn.notes l.notes (E.state l.fn.err) (E.state l.err));
    }

abbrev pub decreases-keys : goal.decreases-keys
decreases-keys g l = MAX_KEYS - l.tally.lines
