use Rattle.std.proofs.Common.{arith}
use Rattle.cm_io.specs.declared.key_pass.TheConstants.{MAX_KEY_LEN}
use Rattle.cm_keys.proofs.PieceLemmas.{no_end, line_taken}
use Rattle.cm_keys.proofs.buffered.first_line.Goals as goal

pub returns-in-Some-clause-line : goal.returns-in-Some-clause-line
returns-in-Some-clause-line c =
    let m = c.in-Some.ensures.first in
    line_taken c.args.end MAX_KEY_LEN c.args.bytes.now c.in-Some.n m.0.high m.0.before m.1 (omega (arith, c.requires.few))

pub returns-in-None-clause-none : goal.returns-in-None-clause-none
returns-in-None-clause-none c = no_end c.args.end c.args.bytes.now c.in-None.ensures.first
