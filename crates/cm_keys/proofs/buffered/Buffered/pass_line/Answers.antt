use Rattle.cm_keys.proofs.PieceLemmas.{ready_after}
use Rattle.cm_keys.proofs.buffered.Buffered.pass_line.Goals as goal

pub returns-clause-ready : goal.returns-clause-ready
returns-clause-ready g c = ready_after c.args.self.now.buf c.args.self.now.start c.args.self.now.until c.args.len c.requires.waits
