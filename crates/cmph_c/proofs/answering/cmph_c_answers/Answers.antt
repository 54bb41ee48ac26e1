use Rattle.cmph_c.proofs.SpanLemmas.{put_by}
use Rattle.cmph_c.proofs.answering.cmph_c_answers.Goals as goal

pub returns-clause-put : goal.returns-clause-put
returns-clause-put c = λ _.
    put_by c.args.function.now c.in-Some.lent c.args.keys.now c.args.ends.now c.args.numbers.now c.answers_into.new.numbers c.in-Ok.pass c.count.result
    c.in-Some.ensures.held c.in-Ok.ensures.pass c.in-Ok.ensures.valid c.count.ensures.count c.if-numbers-count.false c.answers_into.ensures.put
