-- The job that the worked examples are about.
use Rattle.std.specs.Prelude.{codes, None}
use Rattle.cm_judge_words.specs.declared.job.JudgeJob.{JudgeJob}
use Rattle.cm_words_values.specs.declared.limits.TheConstants.{LINE_FEED}

-- the job of `cmph_judge report keys`
abbrev pub plain : JudgeJob
plain = record { report = codes "report"; keys = codes "keys"; first = None; end = LINE_FEED; c = None; b = 128 }
