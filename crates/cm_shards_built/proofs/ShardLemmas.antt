-- The file of a shard after a split.
use Rattle.std.proofs.Common.{◌≡◌, ◌<◌, ◌≤◌, ◌∙◌, ◌⊎◌, inl, inr, ℕ, List, [], length, map, slice_index_or, Option, None, Some, ap, refl, sym, arith}
use Rattle.std.proofs.lemmas.List.FromFn.{get_or-map-range_with_len, length-map-range_with_len}
use Rattle.std.proofs.lemmas.Option.{same_Some}
use Rattle.std.specs.Option.{option_map}
use Rattle.cm_io.specs.Files.{Files, file_at}
use Rattle.cm_io.specs.States.{Outside}
use Rattle.cm_io.specs.declared.key_pass.KeyFault.{KeyFault}
use Rattle.cm_route.specs.declared.route.TheConstants.{MAX_SHARDS}
use Rattle.cm_shards_built.specs.Built.{HasShard}
use Rattle.cm_shards_split.specs.Names.{shard_path}
use Rattle.cm_shards_split.specs.Outcomes.{lines_of, outcome_of, outcome_over, route_of, splitting, told_of}
use Rattle.cm_shards_split.specs.Placed.{placed}
use Rattle.cm_shards_split.specs.Shares.{counts_text, share_bytes, share_counts, shares}
use Rattle.cm_shards_split.specs.Splits.{Splits, frame_of}
use Rattle.cm_shards_words.specs.Limits.{IsSplitJob}
use Rattle.cm_shards_words.specs.declared.jobs.SplitJob.{SplitJob}
use Rattle.cm_tool_stops.specs.Does.{Does}
use Rattle.cm_tool_stops.specs.Ending.{Outcome, Reaches}

-- what the law of the files of a split says of the shards
abbrev pub ShardsAt : Type 0
ShardsAt = (dir : List ℕ) (i : ℕ) (parts : List (List ℕ)) (text : List ℕ) (files : Files) → i < length parts → length parts ≤ MAX_SHARDS → file_at (placed dir parts text files) (shard_path dir i) ≡ Some (slice_index_or parts i [])

-- a refused split has another status
no_zero : {A B : Type 0} (status : ℕ) → status ≡ 0 → ((status ≡ 5) × A) ⊎ ((status ≡ 6) × B) → ⊥
no_zero status zero (inl five) = omega (arith, zero, five.0)
no_zero status zero (inr six) = omega (arith, zero, six.0)

split_lines : (job : SplitJob) (old new : Outside) → Splits job old new 0 → Does (frame_of job) old new 0
split_lines job old new s = s.lines (λ makes. no_zero 0 refl (s.refused makes).said)

-- a split with status 0 has read lines without a fault
files_over : (job : SplitJob) (files : Files) (lines : List (List ℕ)) (fault : Option KeyFault) → 0 ≡ (splitting job files lines fault).status
    → (splitting job files lines fault).files ≡ placed job.dir (shares (route_of job) job.end lines) (counts_text (share_counts (route_of job) lines)) files
files_over job files lines None is = refl
files_over job files lines (Some fault) is = absurd (omega (arith, is))

files_of : (job : SplitJob) (files : Files) (bytes : List ℕ) → 0 ≡ (outcome_over job files bytes).status
    → (outcome_over job files bytes).files ≡ placed job.dir (shares (route_of job) job.end (lines_of (told_of job bytes))) (counts_text (share_counts (route_of job) (lines_of (told_of job bytes)))) files
unfolding outcome_over
files_of job files bytes is = files_over job files (lines_of (told_of job bytes)) (told_of job bytes).fault is

-- the share of a shard is at its place among all
share_at : (job : SplitJob) (lines : List (List ℕ)) (k : ℕ) → k < job.shards → slice_index_or (shares (route_of job) job.end lines) k [] ≡ share_bytes (route_of job) job.end lines k
share_at job lines k below = get_or-map-range_with_len (share_bytes (route_of job) job.end lines) 0 job.shards k k [] below (omega arith)

many_shares : (job : SplitJob) (lines : List (List ℕ)) → length (shares (route_of job) job.end lines) ≡ job.shards
many_shares job lines = length-map-range_with_len (share_bytes (route_of job) job.end lines) 0 job.shards

-- so it is in its file
share_in : ShardsAt → (job : SplitJob) (files : Files) (bytes : List ℕ) (k : ℕ) → IsSplitJob job → k < job.shards → 0 ≡ (outcome_over job files bytes).status
    → file_at (outcome_over job files bytes).files (shard_path job.dir k) ≡ Some (share_bytes (route_of job) job.end (lines_of (told_of job bytes)) k)
share_in law job files bytes k is below zero =
    let lines = lines_of (told_of job bytes) in
    let parts = shares (route_of job) job.end lines in
    let many : length parts ≡ job.shards = many_shares job lines in
    ap (λ (fs : Files). file_at fs (shard_path job.dir k)) (files_of job files bytes zero)
    ∙ law job.dir k parts (counts_text (share_counts (route_of job) lines)) files (omega (arith, below, many)) (omega (arith, many, is.shards.1))
    ∙ ap Some (share_at job lines k below)

pub has_shard : ShardsAt → (job : SplitJob) (old new : Outside) (files : Files) (bytes : List ℕ) (k : ℕ) → IsSplitJob job → Splits job old new 0 → old.disk.files ≡ Some files → file_at files job.keys ≡ Some bytes → k < job.shards → HasShard job bytes k new
has_shard law job old new files bytes k is splits known there below =
    let reached : Reaches old new (outcome_of job files) 0 = (split_lines job old new splits).outcome (λ e. omega (arith, e)) (λ e. omega (arith, e)) (λ e. omega (arith, e)) files known in
    let same : outcome_over job files bytes ≡ reached.outcome = same_Some _ _ (ap (option_map (outcome_over job files)) (sym there) ∙ reached.is) in
    record {
      files = (outcome_over job files bytes).files;
      known = reached.files_are ∙ ap (λ (o : Outcome). Some o.files) (sym same);
      share = share_in law job files bytes k is below (reached.status_is ∙ ap (λ (o : Outcome). o.status) (sym same));
    }
