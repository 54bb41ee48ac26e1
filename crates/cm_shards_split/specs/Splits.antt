-- What a split does to disk and err: what its job promises.
use Rattle.std.specs.Prelude.{◌≡◌, ◌<◌, ◌≤◌, ◌⊎◌, ℕ, List, [], ◌∷◌, length, take, Option, None, Some, Result, slice_index_or}
use Rattle.std.specs.Option.{ForSome}
use Rattle.cm_io.specs.Files.{Files, file_at}
use Rattle.cm_io.specs.States.{Outside}
use Rattle.cm_shards_split.specs.Names.{Makes}
use Rattle.cm_shards_split.specs.Outcomes.{lines_of, outcome_of, route_of, told_of}
use Rattle.cm_shards_split.specs.Placed.{placed}
use Rattle.cm_shards_split.specs.Shares.{counts_text, share_bytes, share_counts, shares}
use Rattle.cm_shards_split.specs.Stops.{end_message, end_status}
use Rattle.cm_shards_split.specs.declared.stop.SplitStop.{SplitStop}
use Rattle.cm_shards_words.specs.Overwriting.{RefusesOverwriting}
use Rattle.cm_shards_words.specs.declared.jobs.SplitJob.{SplitJob}
use Rattle.cm_tool_stops.specs.Does.{Does, Frame}
use Rattle.cm_tool_stops.specs.Ends.{Says}

-- a prefix of bytes
abbrev pub IsPrefix : List ℕ → List ℕ → Type 0
IsPrefix bytes part = (n : ℕ) × (part ≡ take n bytes)

-- The first shards have a prefix of their share each, the others have no file yet.
pub record ArePrefixes (job : SplitJob) (lines parts : List (List ℕ)) : Type 0 where
  pub few : length parts ≤ job.shards
  pub prefixes : (k : ℕ) → k < length parts → IsPrefix (share_bytes (route_of job) job.end lines k) (slice_index_or parts k [])

-- all shares are whole, and the file of the counts has a prefix of its text
pub record AreWhole (job : SplitJob) (lines parts : List (List ℕ)) (text : List ℕ) : Type 0 where
  pub whole : parts ≡ shares (route_of job) job.end lines
  pub prefix : IsPrefix (counts_text (share_counts (route_of job) lines)) text

-- A split that stopped left prefixes of the shares of the lines. The file of the counts is empty, unless all shares are whole.
pub record IsUnfinished (job : SplitJob) (files : Files) (status : ℕ) (new : Option Files) : Type 0 where
  pub bytes : List ℕ
  pub parts : List (List ℕ)
  pub text : List ℕ
  pub there : file_at files job.keys ≡ Some bytes
  pub files_are : new ≡ Some (placed job.dir parts text files)
  pub prefixes : ArePrefixes job (lines_of (told_of job bytes)) parts
  pub counts : (text ≡ []) ⊎ (((told_of job bytes).fault ≡ None) × AreWhole job (lines_of (told_of job bytes)) parts text)
  pub unread : status ≡ 4 → text ≡ []

-- what a failed split may leave: the files are as before, or those of the shards have prefixes of their shares
abbrev pub MayLeave : SplitJob → Outside → Outside → ℕ → Type 0
MayLeave job old new status = ForSome old.disk.files (λ files. (new.disk.files ≡ old.disk.files) ⊎ IsUnfinished job files status new.disk.files)

-- how a split may end
abbrev pub MayEnd : SplitJob → Outside → Outside → ℕ → Type 0
MayEnd job old new status = (end : Result (Unit {0}) SplitStop) × (status ≡ end_status end) × Says old.err new.err (end_message job end)

-- The frame of a split of a keys file that it doesn't make: it writes files with each status, and nothing to out.
abbrev pub frame_of : SplitJob → Frame
frame_of job = record {
  statuses = 0 ∷ 4 ∷ 5 ∷ 6 ∷ 8 ∷ [];
  outcome = outcome_of job;
  saves = 0 ∷ 4 ∷ 5 ∷ 6 ∷ 8 ∷ [];
  prints = [];
  writes = Unit {0};
  spills = ⊥;
  leaves = MayLeave job;
  ends = MayEnd job;
}

-- the keys file of a job is one of the files that its split makes
abbrev pub MakesKeys : SplitJob → Type 0
MakesKeys job = Makes job.dir job.shards job.keys

-- A split that found disk and err in the old state left them in the new one, with this status. It is refused exactly if it would make its
-- own keys file.
pub record Splits (job : SplitJob) (old new : Outside) (result : ℕ) : Type 0 where
  pub refused : MakesKeys job → RefusesOverwriting job.keys old new result
  pub lines : (MakesKeys job → ⊥) → Does (frame_of job) old new result
