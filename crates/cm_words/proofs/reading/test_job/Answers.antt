use Rattle.std.proofs.Common.{refl}
use Rattle.cm_words.proofs.reading.test_job.Goals as goal

pub returns-clause-job : goal.returns-clause-job
returns-clause-job c = rw (c.in_ok-directory.ensures, c.text.ensures) refl
