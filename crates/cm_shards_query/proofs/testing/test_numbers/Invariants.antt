use Rattle.std.proofs.Common.{◌≡◌, ◌-◌, ◌≤◌, ◌++◌, length, take, drop, true, None}
use Rattle.std.specs.Option.{ForSome}
use Rattle.cm_keys.specs.Streams.{told_by}
use Rattle.cm_keys.specs.declared.lines.TheConstants.{MAX_LINES}
use Rattle.cm_query_batch.specs.Waiting.{AreAnswers}
use Rattle.cm_shards_files.specs.Shards.{number_in, total_of}
use Rattle.cm_shards_query.specs.Verdicts.{first_fault}
use Rattle.cm_shards_query.proofs.TestLemmas.{AreMarks}
use Rattle.cm_shards_query.proofs.testing.test_numbers.Given as goal

abbrev pub invariant-lines : goal.invariant-lines
invariant-lines g l =
    let done = l.lines.count - length l.batch.keys in
    record {
      ready : l.lines.usable ≡ true;
      same : told_by l.lines ≡ told_by l.fn.lines;
      quiet : l.lines.faults ≡ l.fn.lines.faults;
      few : l.lines.count ≤ MAX_LINES;
      waits : length l.batch.keys ≤ l.lines.count;
      room : length l.marks ≡ length l.fn.marks;
      answered : AreAnswers (number_in l.shards) (total_of l.shards) l.batch;
      ahead : ForSome (told_by l.fn.lines) (λ told. drop done told.keys ≡ l.batch.keys ++ drop l.lines.count told.keys);
      marks : ForSome (told_by l.fn.lines) (λ told. AreMarks (number_in l.shards) (take done told.keys) l.marks);
      fine : ForSome (told_by l.fn.lines) (λ told. first_fault (number_in l.shards) (take done told.keys) ≡ None);
    }

abbrev pub decreases-lines : goal.decreases-lines
decreases-lines g l = MAX_LINES - (l.lines.count - length l.batch.keys)
