use Rattle.std.proofs.Common.{[]}
use Rattle.cm_io.specs.NotingLaws.{noted_nothing}
use Rattle.cm_shards_query.proofs.asking.answer_lines.Goals as goal

pub returns-then-question-clause-ends : goal.returns-then-question-clause-ends
returns-then-question-clause-ends g c = λ told is. ([], noted_nothing _ _, rw c.if-question.true (c.test_lines.ensures.ends told is c.args.question.now.job.now.end))
