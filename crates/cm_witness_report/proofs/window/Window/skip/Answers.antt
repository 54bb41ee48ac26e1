use Rattle.cm_witness_report.proofs.WindowLemmas.{waiting_skip}
use Rattle.cm_witness_report.proofs.window.Window.skip.Goals as goal

pub returns-clause-rest : goal.returns-clause-rest
returns-clause-rest c = let s = c.args.self.now in waiting_skip s.buf s.from s.until c.args.n c.requires.inside
