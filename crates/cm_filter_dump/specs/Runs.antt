-- What the program promises of a run: the theorem about the top call. A build does what the driver of builds promises (`Builds`) and its
-- keys hold, and a test of keys does what that of queries promises (`Asks`).
use Rattle.std.specs.Prelude.{ℕ, [], Ok, Err}
use Rattle.cm_filter_dump.specs.Asked.{asking_of}
use Rattle.cm_filter_dump.specs.Program.{program}
use Rattle.cm_filter_dump.specs.Running.{RunsBuild}
use Rattle.cm_filter_words.specs.declared.jobs.FilterJob.{FilterJob}
use Rattle.cm_filter_words.specs.declared.jobs.FilterJob.TheVariants.{Build, Test}
use Rattle.cm_io.specs.States.{Outside}
use Rattle.cm_tool_asking.specs.Asks.{Asks}
use Rattle.cm_tool_stops.specs.Refusing.{Refuses}
use Rattle.cm_words_arguments.specs.Options.{Read}

-- With arguments that mean this, a run that found disk, out and err in the old state left them in the new one, with this status.
abbrev pub Runs : Read FilterJob → Outside → Outside → ℕ → Type 0
Runs (Err fault) old new result = Refuses program [] fault old new result
Runs (Ok (Build job)) old new result = RunsBuild job old new result
Runs (Ok (Test job)) old new result = Asks (asking_of job) old new result
