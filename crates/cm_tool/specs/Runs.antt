-- What the program promises of a run: the theorem about the top call. A build, a query and a test do what the driver of each promises,
-- in one record of what any run does (`Does`), and what they are for beside it. The five sentences of README's guarantee are: 1 `numbers` of
-- `RunsBuild`; 2 `saved` and `refused` of `Builds`; 3 `outcome` and `err` of `Does`; 4 `read`, `write`, `kept` and `left` of `Does`; 5
-- `spelling_of`, by which `outcome` reads a function file.
use Rattle.std.specs.Prelude.{ℕ, Ok, Err}
use Rattle.cm_io.specs.States.{Outside}
use Rattle.cm_tool.specs.Asking.{asking_of}
use Rattle.cm_tool.specs.Numbers.{RunsBuild}
use Rattle.cm_tool.specs.Printing.{Prints}
use Rattle.cm_tool.specs.Said.{cmph, hint}
use Rattle.cm_tool.specs.TestEnds.{Tests}
use Rattle.cm_tool.specs.Texts.{help_text, version_text}
use Rattle.cm_tool.specs.Upgrading.{Upgrades}
use Rattle.cm_tool_asking.specs.Asks.{Asks}
use Rattle.cm_tool_stops.specs.Refusing.{Refuses}
use Rattle.cm_words.specs.declared.jobs.Job.{Job}
use Rattle.cm_words.specs.declared.jobs.Job.TheVariants.{Help, Version, Build, Query, Test, Upgrade}
use Rattle.cm_words_arguments.specs.Options.{Read}

-- With arguments that mean this, a run that found disk, out and err in the old state left them in the new one, with this status.
abbrev pub Runs : Read Job → Outside → Outside → ℕ → Type 0
Runs (Err fault) old new result = Refuses cmph hint fault old new result
Runs (Ok Help) old new result = Prints help_text old new result
Runs (Ok Version) old new result = Prints version_text old new result
Runs (Ok (Build job)) old new result = RunsBuild job old new result
Runs (Ok (Query job)) old new result = Asks (asking_of job) old new result
Runs (Ok (Test job)) old new result = Tests job old new result
Runs (Ok (Upgrade job)) old new result = Upgrades job old new result
