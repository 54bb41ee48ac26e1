use Rattle.std.proofs.Common.{arith, w64}
use Rattle.std.proofs.lemmas.Nat.Bits.{bit_at-trailing_zeros}
use Rattle.cm_keys.proofs.MarkLemmas.{first_marked, marks_after}
use Rattle.cm_keys.proofs.buffered.first_end.Goals as goal

pub returns-then-marks-ne0-clause-first : goal.returns-then-marks-ne0-clause-first
returns-then-marks-ne0-clause-first c =
    let lowest = bit_at-trailing_zeros w64 c.args.marks (omega (arith, c.if-marks-ne0.true)) c.ranges.marks.fits in
    first_marked c.args.end c.args.bytes.now c.args.marks _ c.requires.marks lowest.1 lowest.2

pub returns-then-marks-ne0-clause-marks : goal.returns-then-marks-ne0-clause-marks
returns-then-marks-ne0-clause-marks c = marks_after c.args.end c.args.bytes.now c.args.marks _ c.requires.marks
