use Rattle.std.proofs.Common.{◌≡◌, ◌≤◌, eqb, length, length-take, take, arith, w8}
use Rattle.std.proofs.lemmas.Simd.{bitmask_splat}
use Rattle.cm_keys.proofs.MarkLemmas.{marks_all, marks_of_near}
use Rattle.cm_keys.proofs.buffered.mark_ends.Goals as goal

pub returns-clause-marks : goal.returns-clause-marks
returns-clause-marks c =
    let long : 64 ≤ length c.args.bytes.now = c.if-bytes-lt64.false in
    let near : length (take 64 c.args.bytes.now) ≡ 64 = omega (arith, long, length-take 64 c.args.bytes.now) in
    marks_of_near c.args.end c.args.bytes.now _ long (bitmask_splat w8 eqb (take 64 c.args.bytes.now) 64 c.args.end near (omega arith))

pub returns-clause-all : goal.returns-clause-all
returns-clause-all c long =
    let near : length (take 64 c.args.bytes.now) ≡ 64 = omega (arith, long, length-take 64 c.args.bytes.now) in
    marks_all c.args.end c.args.bytes.now _ long (bitmask_splat w8 eqb (take 64 c.args.bytes.now) 64 c.args.end near (omega arith))
