use Rattle.std.proofs.Common.{◌≡◌, ◌++◌, ◌+◌, ◌-◌, drop, length}
use Rattle.std.specs.Option.{ForSome}
use Rattle.cm_spec.specs.declared.limits.TheConstants.{MAX_EDGES}
use Rattle.cm_witness_report.specs.Lines.{lines_in}
use Rattle.cm_witness_report.specs.Reading.{pairs_from}
use Rattle.cm_witness_report.specs.Reports.{ArePairs}
use Rattle.cm_witness_report.specs.Windows.{HasEnded, waiting}
use Rattle.cm_witness_report.proofs.LoopLemmas.{last_again, with_pairs}
use Rattle.cm_witness_report.proofs.reading.read_pairs.Given as goal

abbrev pub invariant-loop-done : goal.invariant-loop-done
invariant-loop-done g l = record {
  told : g.S.Source.told l.source ≡ g.S.Source.told l.fn.source;
  quiet : g.S.Source.faults l.source ≡ g.S.Source.faults l.fn.source;
  ended : HasEnded l.window.ended (g.S.Source.told l.source) (g.S.Source.place l.source);
  many : length l.pairs.items ≡ l.done;
  are : ArePairs 0 l.pairs.items;
  after : l.last ≡ last_again 0 l.pairs.items;
  same : ForSome (g.S.Source.told l.fn.source) (λ bytes.
      with_pairs l.pairs.items (pairs_from l.last (l.start + l.done) (MAX_EDGES - l.done) (lines_in (waiting l.window.buf l.window.from l.window.until ++ drop (g.S.Source.place l.source) bytes)))
      ≡ pairs_from 0 l.start MAX_EDGES (lines_in (waiting l.fn.window.buf l.fn.window.from l.fn.window.until ++ drop (g.S.Source.place l.fn.source) bytes)));
}
