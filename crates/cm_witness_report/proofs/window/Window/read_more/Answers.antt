use Rattle.std.proofs.Common.{◌∙◌, ◌++◌, ◌-◌, ℕ, List, take, drop, ap, append_assoc, sym, arith}
use Rattle.cm_witness_report.specs.Windows.{waiting}
use Rattle.cm_witness_report.proofs.WindowLemmas.{left_same, waiting_more}
use Rattle.cm_witness_report.proofs.window.Window.read_more.Goals as goal

pub returns-clause-left : goal.returns-clause-left
returns-clause-left g c = left_same _ _ _ _ _ _ c.in_ok-n.ensures.told (λ bytes is.
    let s = c.args.self.now in
    let got = c.read.new.buf in
    let n = c.in_ok-n.n in
    let gives = c.in_ok-n.ensures.gives bytes is in
    let more = waiting_more s.buf got s.from s.until n (16384 - s.until) s.in_order (omega (arith, s.in_buf, s.size)) (omega (arith, c.in_ok-n.ensures.bound, c.read.auto.buf)) in
    let rest : List ℕ = drop (g.S.Source.place c.read.new.self) bytes in
    ap (λ (l : List ℕ). l ++ rest) more ∙ append_assoc (waiting s.buf s.from s.until) (take n got) rest ∙ ap (λ (l : List ℕ). waiting s.buf s.from s.until ++ l) (sym gives.given))
