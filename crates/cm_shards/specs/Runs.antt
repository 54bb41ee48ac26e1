-- What the program promises of a run: the theorem about the top call. A split, a join, and a query or a test do each what their job promises
-- (`Splits`, `Joins`, `AsksShards`).
use Rattle.std.specs.Prelude.{ℕ, [], Ok, Err}
use Rattle.cm_io.specs.States.{Outside}
use Rattle.cm_shards_join.specs.Joins.{Joins}
use Rattle.cm_shards_query.specs.Asks.{AsksShards}
use Rattle.cm_shards_split.specs.Splits.{Splits}
use Rattle.cm_shards_words.specs.Program.{program}
use Rattle.cm_shards_words.specs.declared.jobs.ShardsJob.{ShardsJob}
use Rattle.cm_shards_words.specs.declared.jobs.ShardsJob.TheVariants.{Ask, Join, Split}
use Rattle.cm_tool_stops.specs.Refusing.{Refuses}
use Rattle.cm_words_arguments.specs.Options.{Read}

-- With arguments that mean this, a run that found disk, out and err in the old state left them in the new one, with this status.
abbrev pub Runs : Read ShardsJob → Outside → Outside → ℕ → Type 0
Runs (Err fault) old new result = Refuses program [] fault old new result
Runs (Ok (Split job)) old new result = Splits job old new result
Runs (Ok (Join job)) old new result = Joins job old new result
Runs (Ok (Ask job)) old new result = AsksShards job old new result
