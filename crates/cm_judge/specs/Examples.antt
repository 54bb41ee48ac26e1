-- A job for the worked examples.
use Rattle.std.specs.Prelude.{None, codes}
use Rattle.cm_judge_words.specs.declared.job.JudgeJob.{JudgeJob}
use Rattle.cm_words_values.specs.declared.limits.TheConstants.{LINE_FEED}

-- the job of `cmph_judge r k`
abbrev pub plain_job : JudgeJob
plain_job = record { report = codes "r"; keys = codes "k"; first = None; end = LINE_FEED; c = None; b = 128 }
