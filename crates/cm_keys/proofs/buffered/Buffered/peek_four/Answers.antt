use Rattle.std.proofs.Common.{arith}
use Rattle.cm_io.specs.declared.key_pass.TheConstants.{MAX_KEY_LEN}
use Rattle.cm_keys.proofs.PieceLemmas.{fewer_after, fewer_here}
use Rattle.cm_keys.proofs.buffered.Buffered.peek_four.Goals as goal

pub returns-in-None-clause-none : goal.returns-in-None-clause-none
returns-in-None-clause-none g c = fewer_here MAX_KEY_LEN c.args.end 4 _ (omega arith) c.in-None.ensures.none

pub returns-in-None-first_line-clause-none : goal.returns-in-None-first_line-clause-none
returns-in-None-first_line-clause-none g c =
    let last = fewer_here MAX_KEY_LEN c.args.end 3 _ (omega arith) c.in-None-first_line.ensures.none in
    fewer_after MAX_KEY_LEN c.args.end 3 _ _ _ c.in-Some.ensures.line last

pub returns-in-None-first_line-2-clause-none : goal.returns-in-None-first_line-2-clause-none
returns-in-None-first_line-2-clause-none g c =
    let last = fewer_here MAX_KEY_LEN c.args.end 2 _ (omega arith) c.in-None-first_line-2.ensures.none in
    fewer_after MAX_KEY_LEN c.args.end 3 _ _ _ c.in-Some.ensures.line (fewer_after MAX_KEY_LEN c.args.end 2 _ _ _ c.in-Some-first_line.ensures.line last)

pub returns-in-None-first_line-3-clause-none : goal.returns-in-None-first_line-3-clause-none
returns-in-None-first_line-3-clause-none g c =
    let last = fewer_here MAX_KEY_LEN c.args.end 1 _ (omega arith) c.in-None-first_line-3.ensures.none in
    fewer_after MAX_KEY_LEN c.args.end 3 _ _ _ c.in-Some.ensures.line
    (fewer_after MAX_KEY_LEN c.args.end 2 _ _ _ c.in-Some-first_line.ensures.line (fewer_after MAX_KEY_LEN c.args.end 1 _ _ _ c.in-Some-first_line-2.ensures.line last))
