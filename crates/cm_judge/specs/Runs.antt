-- What the program promises of a run: the theorem about the top call.
use Rattle.std.specs.Prelude.{ℕ, [], Ok, Err}
use Rattle.cm_io.specs.States.{Outside}
use Rattle.cm_judge.specs.Judges.{Judges}
use Rattle.cm_judge.specs.Texts.{program}
use Rattle.cm_judge_words.specs.declared.job.JudgeJob.{JudgeJob}
use Rattle.cm_tool_stops.specs.Refusing.{Refuses}
use Rattle.cm_words_arguments.specs.Options.{Read}

-- With arguments that mean this, a run that found disk, out and err in the old state left them in the new one, with this status.
abbrev pub Runs : Read JudgeJob → Outside → Outside → ℕ → Type 0
Runs (Err fault) old new result = Refuses program [] fault old new result
Runs (Ok job) old new result = Judges job old new result
