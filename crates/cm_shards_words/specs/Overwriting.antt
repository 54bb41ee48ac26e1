-- What a job does that is refused because it would make a file that it reads.
use Rattle.std.specs.Prelude.{◌≡◌, ◌⊎◌, ℕ, List}
use Rattle.cm_io.specs.States.{IsSent, Outside}
use Rattle.cm_shards_words.specs.Messages.{would_overwrite}
use Rattle.cm_shards_words.specs.Program.{program}
use Rattle.cm_tool_stops.specs.Ends.{Says}
use Rattle.cm_tool_stops.specs.Messages.{out_of_memory}

-- It says which file, with status 5, or that memory ran out, with 6. Nothing else is done: no file is opened or made.
pub record RefusesOverwriting (file : List ℕ) (old new : Outside) (result : ℕ) : Type 0 where
  pub disk : new.disk ≡ old.disk
  pub out : new.out ≡ old.out
  pub said : ((result ≡ 5) × Says old.err new.err (would_overwrite file)) ⊎ ((result ≡ 6) × Says old.err new.err (out_of_memory program))
  -- If the buffer of err was empty before the call, it is empty after it, or the count of err rose.
  pub err_sent : old.err.waits ≡ 0 → IsSent old.err new.err
