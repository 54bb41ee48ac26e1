use Rattle.std.proofs.Common.{◌≡◌, ◌∙◌, ◌+◌, ℕ, suc, take, ap, sym, arith}
use Rattle.cm_witness_report.specs.Windows.{waiting}
use Rattle.cm_witness_report.proofs.WindowLemmas.{front_none, front_some}
use Rattle.cm_witness_report.proofs.window.Window.line.Goals as goal

pub returns-in-Some-clause-line : goal.returns-in-Some-clause-line
returns-in-Some-clause-line c =
    let s = c.args.self.now in
    let w = waiting s.buf s.from s.until in
    let n = c.in-Some.n in
    let found = c.in-Some.ensures in
    let same : n + 1 ≡ suc n = omega arith in
    ap (λ (k : ℕ). take k w) same ∙ sym (front_some w n found.0.high (λ k l is. found.0.before k (omega arith) l is) found.1)

pub returns-in-None-clause-line : goal.returns-in-None-clause-line
returns-in-None-clause-line c =
    let s = c.args.self.now in
    sym (front_none (waiting s.buf s.from s.until) (λ k l is. c.in-None.ensures k (omega arith) l is))
