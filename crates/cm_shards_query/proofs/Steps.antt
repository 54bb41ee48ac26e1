-- From the steps of a job to how it ends.
use Rattle.std.proofs.Common.{◌≡◌, List, [], ℕ, Option, Some, Result, Ok, Err, Bool, true, false, refl, sym, subst}
use Rattle.cm_io.specs.Files.{Files, file_at}
use Rattle.cm_io.specs.NotingLaws.{noted_nothing}
use Rattle.cm_io.specs.Passes.{Told}
use Rattle.cm_io.specs.States.{SinkState}
use Rattle.cm_io.specs.WritingLaws.{then_nothing}
use Rattle.cm_shards_files.specs.Loading.{shards_of}
use Rattle.cm_shards_files.specs.Shards.{Sharded}
use Rattle.cm_shards_query.specs.Leaves.{EndsJob, EndsKeys, EndsLines, IsPartBefore, LeavesErr, lines_there}
use Rattle.cm_shards_query.specs.Outcomes.{lines_of}
use Rattle.cm_shards_query.specs.Written.{Numbers, numbers_of}
use Rattle.cm_shards_query.specs.declared.stop.AskStop.{AskStop}
use Rattle.cm_shards_query.specs.declared.stop.AskStop.TheVariants.{Load, Memory, Read, TooLong, TooMany, Write}
use Rattle.cm_shards_words.specs.declared.jobs.AskJob.{AskJob}
use Rattle.cm_tool_asking.specs.Leaves.{Wrote, wrote}

-- the lines of the keys file were answered so
pub ends_keys : (job : AskJob) (s : Sharded) (files : Files) (bytes : List ℕ) (w : Wrote) (result : Result Bool AskStop) → file_at files job.keys ≡ Some bytes → EndsLines job.test job.end (numbers_of s) (lines_of job bytes) w result → EndsKeys job s files w result
ends_keys job s files bytes w (Ok complete) there ends = (bytes, there, ends)
ends_keys job s files bytes w (Err Memory) there ends = ends
ends_keys job s files bytes w (Err (Load fault)) there ends = absurd ends
ends_keys job s files bytes w (Err Read) there ends = subst (λ (found : Option (List ℕ)). IsPartBefore job.test job.end (numbers_of s) (lines_there job found) w) (sym there) ends
ends_keys job s files bytes w (Err Write) there ends = (bytes, there, ends)
ends_keys job s files bytes w (Err (TooLong line)) there ends = (bytes, there, ends)
ends_keys job s files bytes w (Err TooMany) there ends = (bytes, there, ends)

-- nothing was read of them
pub part_none : (test : Bool) (end : ℕ) (n : Numbers) (told : Told) (old : Option (List ℕ)) → IsPartBefore test end n told (wrote old old [])
part_none true end n told old = (refl, refl)
part_none false end n told old = (0, record { out = then_nothing old; notes_are = refl })

-- nothing is noted
pub err_none : (failed : Bool) (err : SinkState) → LeavesErr failed failed err err
err_none failed err = record { sent = λ before fine. before fine; says = ([], noted_nothing failed err) }

-- a job whose functions were loaded
pub with_loaded : (job : AskJob) (s : Sharded) (files : Files) (w : Wrote) (result : Result Bool AskStop) → shards_of files job.manifest ≡ Some (Ok s) → EndsKeys job s files w result → EndsJob job files w result
with_loaded job s files w (Ok complete) loaded ends = (s, loaded, ends)
with_loaded job s files w (Err Memory) loaded ends = ends
with_loaded job s files w (Err (Load fault)) loaded ends = absurd ends.2
with_loaded job s files w (Err Read) loaded ends = (s, loaded, ends)
with_loaded job s files w (Err Write) loaded ends = (s, loaded, ends)
with_loaded job s files w (Err (TooLong line)) loaded ends = (s, loaded, ends)
with_loaded job s files w (Err TooMany) loaded ends = (s, loaded, ends)
