-- What the program promises of a run: the theorem about the top call. A build does what the driver of builds promises (`Builds`), and the
-- store that it saves answers as its lines do; a look-up does what the driver of queries promises (`Asks`).
use Rattle.std.specs.Prelude.{ℕ, [], Ok, Err}
use Rattle.cm_io.specs.States.{Outside}
use Rattle.cm_store_dump.specs.Asked.{asking_of}
use Rattle.cm_store_dump.specs.Running.{RunsBuild}
use Rattle.cm_store_values.specs.Program.{program}
use Rattle.cm_store_words.specs.declared.jobs.StoreJob.{StoreJob}
use Rattle.cm_store_words.specs.declared.jobs.StoreJob.TheVariants.{Build, Look}
use Rattle.cm_tool_asking.specs.Asks.{Asks}
use Rattle.cm_tool_stops.specs.Refusing.{Refuses}
use Rattle.cm_words_arguments.specs.Options.{Read}

-- With arguments that mean this, a run that found disk, out and err in the old state left them in the new one, with this status.
abbrev pub Runs : Read StoreJob → Outside → Outside → ℕ → Type 0
Runs (Err fault) old new result = Refuses program [] fault old new result
Runs (Ok (Build job)) old new result = RunsBuild job old new result
Runs (Ok (Look job)) old new result = Asks (asking_of job) old new result
