-- The ranges of what the judge is asked for.
use Rattle.std.specs.Prelude.{ℕ, Option, IfSome}
use Rattle.cm_judge_words.specs.declared.job.JudgeJob.{JudgeJob}
use Rattle.cm_judge_words.specs.declared.values.Values.{Values}
use Rattle.cm_spec.specs.Rule.{IsRatio}
use Rattle.cm_words_values.specs.Limits.{IsEnd, IsFirst, IsWidth}

-- a ratio, if there is one
abbrev pub IsRatioOption : Option ℕ → Type 0
IsRatioOption c = IfSome c IsRatio

pub record AreValues (v : Values) : Type 0 where
  pub width : IsWidth v.b
  pub ratio : IsRatioOption v.c
  pub first : IsFirst v.first

-- The ranges of a job's numbers, and the byte that ends its lines.
pub record IsJudgeJob (job : JudgeJob) : Type 0 where
  pub width : IsWidth job.b
  pub ratio : IsRatioOption job.c
  pub first : IsFirst job.first
  pub end : IsEnd job.end
