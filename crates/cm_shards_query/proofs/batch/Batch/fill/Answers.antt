use Rattle.std.proofs.Common.{◌≡◌, ◌-◌, ◌<◌, ◌∙◌, length, sym, arith}
use Rattle.cm_shards_files.specs.Shards.{number_in, total_of}
use Rattle.cm_shards_query.proofs.TakingLemmas.{taken_answers, taken_counts, taken_refills}
use Rattle.cm_shards_query.proofs.batch.Batch.fill.Goals as goal

pub returns-in-Ok-false-clause-buffered : goal.returns-in-Ok-false-clause-buffered
returns-in-Ok-false-clause-buffered g c = λ key buffered. rw (sym c.in-Ok-false.field-0-test) (sym c.in-Ok-false.is ∙ c.take_first.ensures.buffered key buffered)

pub overflow_sub-self : goal.overflow_sub-self
overflow_sub-self g c =
    let first = rw c.in-Ok-true.field-0-test at c.in-Ok-true.ensures.fills in
    let taken = c.gather.ensures.takes _ first.0 in
    omega (arith, taken.count, c.count.ensures.count, c.len.ensures.len)

pub returns-clause-answers : goal.returns-clause-answers
returns-clause-answers g c = taken_answers (number_in c.args.shards.now) (total_of c.args.shards.now) _ _ _ c.numbers.ensures.are c.numbers.ensures.below

pub returns-clause-counts : goal.returns-clause-counts
returns-clause-counts g c =
    let first = rw c.in-Ok-true.field-0-test at c.in-Ok-true.ensures.fills in
    let taken = c.gather.ensures.takes _ first.0 in
    let some : 0 < length c.gather.new.keys = omega (arith, first.1, c.gather.ensures.some) in
    let before : c.count.result - c.len.result ≡ c.args.lines.now.count = omega (arith, taken.count, c.count.ensures.count, c.len.ensures.len) in
    taken_counts _ _ _ _ before taken some

pub returns-clause-refills : goal.returns-clause-refills
returns-clause-refills g c = λ told is.
    let first = rw c.in-Ok-true.field-0-test at c.in-Ok-true.ensures.fills in
    let taken = c.gather.ensures.takes _ first.0 in
    let before : c.count.result - c.len.result ≡ c.args.lines.now.count = omega (arith, taken.count, c.count.ensures.count, c.len.ensures.len) in
    taken_refills _ _ _ c.args.lines.now _ told before taken (c.gather.ensures.told ∙ c.take_first.ensures.told) is
