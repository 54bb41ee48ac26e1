use Rattle.std.proofs.Common.{◌*◌, ◌/◌, ◌^◌, ap}
use Rattle.cm_witness_gather.specs.Candidates.{bits_of, word_of}
use Rattle.cm_witness_gather.proofs.candidates.slot_of.Goals as goal

pub returns-clause-word : goal.returns-clause-word
unfolding word_of
returns-clause-word g c = ap (λ n. n / 2 ^ 32 * c.args.words / 2 ^ 32) c.mix-number.ensures

pub returns-clause-bits : goal.returns-clause-bits
unfolding bits_of
returns-clause-bits g c = cc
