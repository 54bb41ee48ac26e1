use Rattle.std.proofs.Common.{◌≡◌, ◌-◌, false}
use Rattle.cm_witness_report.specs.Windows.{HasEnded, left_bytes, waiting}
use Rattle.cm_witness_report.proofs.window.Window.fill.Given as goal

abbrev pub invariant-loop-self : goal.invariant-loop-self
invariant-loop-self g l = record {
  told : g.S.Source.told l.source ≡ g.S.Source.told l.fn.source;
  quiet : g.S.Source.faults l.source ≡ g.S.Source.faults l.fn.source;
  start : l.self.from ≡ 0;
  left : left_bytes (g.S.Source.told l.source) (g.S.Source.place l.source) (waiting l.self.buf l.self.from l.self.until) ≡ left_bytes (g.S.Source.told l.fn.source) (g.S.Source.place l.fn.source) (waiting l.fn.self.buf l.fn.self.from l.fn.self.until);
  going : l.self.ended ≡ false;
  ended : HasEnded l.self.ended (g.S.Source.told l.source) (g.S.Source.place l.source);
}

abbrev pub decreases-loop-self : goal.decreases-loop-self
decreases-loop-self g l = 128 - l.self.until
