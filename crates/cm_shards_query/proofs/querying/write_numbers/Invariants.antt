use Rattle.std.proofs.Common.{◌≡◌, ◌⊎◌, ◌<◌, ◌-◌, ◌≤◌, ◌++◌, ℕ, List, length, take, drop, true, false}
use Rattle.std.specs.Option.{ForSome}
use Rattle.cm_io.specs.Noting.{Noted}
use Rattle.cm_keys.specs.Streams.{IsBuffered, told_by}
use Rattle.cm_keys.specs.declared.lines.TheConstants.{MAX_LINES}
use Rattle.cm_query_batch.specs.Waiting.{AreAnswers}
use Rattle.cm_shards_files.specs.Shards.{number_in, total_of}
use Rattle.cm_shards_query.specs.Written.{number_replies}
use Rattle.cm_tool_asking.specs.Meanings.{notes_of}
use Rattle.cm_tool_asking.specs.PassLaws.{SoFar}
use Rattle.cm_shards_query.proofs.querying.write_numbers.Given as goal

abbrev pub invariant-lines : goal.invariant-lines
invariant-lines g l =
    let O = g.O.Sink in
    let E = g.E.Sink in
    let done = l.lines.count - length l.batch.keys in
    record {
      ready : l.lines.usable ≡ true;
      same : told_by l.lines ≡ told_by l.fn.lines;
      quiet : l.lines.faults ≡ l.fn.lines.faults;
      quiet_out : (O.state l.out).faults ≡ (O.state l.fn.out).faults;
      few : l.lines.count ≤ MAX_LINES;
      waits : length l.batch.keys ≤ l.lines.count;
      sent : (O.state l.fn.out).waits ≡ 0 → (0 < length l.batch.keys) ⊎ (((key : List ℕ) × IsBuffered l.lines key) ⊎ ((O.state l.out).waits ≡ 0));
      notes_sent : (l.fn.notes ≡ false → (E.state l.fn.err).waits ≡ 0) → l.notes ≡ false → (E.state l.err).waits ≡ 0;
      says : (text : List ℕ) × Noted l.fn.notes l.notes (E.state l.fn.err) (E.state l.err) text;
      answered : AreAnswers (number_in l.shards) (total_of l.shards) l.batch;
      ahead : ForSome (told_by l.fn.lines) (λ told. drop done told.keys ≡ l.batch.keys ++ drop l.lines.count told.keys);
      so_far : ForSome (told_by l.fn.lines) (λ told. SoFar (number_replies (number_in l.shards) l.end) (take done told.keys) l.complete (O.state l.fn.out).written (O.state l.out).written);
      noted : ForSome (told_by l.fn.lines) (λ told. Noted l.fn.notes l.notes (E.state l.fn.err) (E.state l.err) (notes_of (number_replies (number_in l.shards) l.end) (take done told.keys)));
    }

abbrev pub decreases-lines : goal.decreases-lines
decreases-lines g l = MAX_LINES - (l.lines.count - length l.batch.keys)
