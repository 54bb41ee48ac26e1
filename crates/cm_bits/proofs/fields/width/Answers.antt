use Rattle.std.proofs.Common.{arith, lit≤}
use Rattle.cm_bits.proofs.FieldsLemmas.{width-is}
use Rattle.cm_bits.proofs.fields.width.Goals as goal

pub returns-then-bound-w : goal.returns-then-bound-w
returns-then-bound-w c = width-is c.args.bound c.loop-w.w (omega arith) (omega arith) c.loop-w.invariant (λ _. omega (arith, c.if-bound-w.true))

pub returns : goal.returns
returns c = width-is c.args.bound 27 (lit≤ tt) (lit≤ tt) (λ k l m. c.loop-w.invariant k l (omega arith)) (λ l. absurd (omega arith))
