use Rattle.std.proofs.Common.{◌≡◌, ◌++◌, ◌+◌, ◌-◌, drop, length}
use Rattle.std.specs.Option.{ForSome}
use Rattle.cm_witness_report.specs.Lines.{lines_in}
use Rattle.cm_witness_report.specs.Reading.{edges_from}
use Rattle.cm_witness_report.specs.Reports.{AreEdges}
use Rattle.cm_witness_report.specs.Windows.{HasEnded, waiting}
use Rattle.cm_witness_report.proofs.LoopLemmas.{last_line, with_edges}
use Rattle.cm_witness_report.proofs.reading.read_edges.Given as goal

abbrev pub invariant-loop-done : goal.invariant-loop-done
invariant-loop-done g l = record {
  told : g.S.Source.told l.source ≡ g.S.Source.told l.fn.source;
  quiet : g.S.Source.faults l.source ≡ g.S.Source.faults l.fn.source;
  ended : HasEnded l.window.ended (g.S.Source.told l.source) (g.S.Source.place l.source);
  many : length l.edges.items ≡ l.done;
  are : AreEdges l.third 0 l.edges.items;
  after : l.last ≡ last_line 0 l.edges.items;
  same : ForSome (g.S.Source.told l.fn.source) (λ bytes.
      with_edges l.edges.items (edges_from l.third l.last (2 + l.done) (l.count - l.done) (lines_in (waiting l.window.buf l.window.from l.window.until ++ drop (g.S.Source.place l.source) bytes)))
      ≡ edges_from l.third 0 2 l.count (lines_in (waiting l.fn.window.buf l.fn.window.from l.fn.window.until ++ drop (g.S.Source.place l.fn.source) bytes)));
}
