use Rattle.std.proofs.Common.{[]}
use Rattle.cm_io.specs.NotingLaws.{noted_nothing}
use Rattle.cm_filter_dump.proofs.files.FilterFileAsked.answer.Goals as goal

pub returns-clause-ends : goal.returns-clause-ends
returns-clause-ends g c = λ told is. ([], noted_nothing _ _, c.write_members.ensures.ends told is)
