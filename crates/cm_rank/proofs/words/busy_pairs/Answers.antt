use Rattle.std.proofs.Common.{arith}
use Rattle.cm_rank.proofs.WordLemmas.{lower_bits-shifted, pairs}
use Rattle.cm_rank.proofs.words.busy_pairs.Goals as goal

pub overflow_sub-result : goal.overflow_sub-result
overflow_sub-result c = rw (lower_bits-shifted c.args.many c.requires.fit) (omega (arith, pairs c.args.word c.args.many))

pub returns : goal.returns
returns c = rw (lower_bits-shifted c.args.many c.requires.fit) (omega (arith, pairs c.args.word c.args.many))
