-- From the lines that are split to the files in the end.
use Rattle.std.proofs.Common.{◌≡◌, ◌∙◌, ◌⊎◌, ℕ, List, [], length, take, Option, None, Some, Result, Ok, Err, inl, inr, refl, ap, sym, subst, arith}
use Rattle.std.specs.FinMap as map
use Rattle.std.specs.Option.{option_map}
use Rattle.std.proofs.lemmas.List.{take_all}
use Rattle.std.proofs.lemmas.List.FromFn.{fill_by_all, get_or-map-range_with_len, length-map-range_with_len}
use Rattle.cm_io.specs.Files.{Files, file_at, with_file}
use Rattle.cm_io.specs.Passes.{Told}
use Rattle.cm_io.specs.declared.fault.DiskFault.{DiskFault}
use Rattle.cm_io.specs.declared.fault.DiskFault.TheVariants as disk_fault
use Rattle.cm_io.specs.declared.key_pass.KeyFault.{KeyFault}
use Rattle.cm_shards_split.specs.Leaves.{HasEndedOf, IsSplitInto, IsToldOf, LeavesFiles, plan_of, stop_from_disk}
use Rattle.cm_shards_split.specs.Names.{counts_path}
use Rattle.cm_shards_split.specs.Outcomes.{lines_of, route_of, told_of}
use Rattle.cm_shards_split.specs.Parts.{HasPrefixes, Written, counts_of}
use Rattle.cm_shards_split.specs.Placed.{placed}
use Rattle.cm_shards_split.specs.PlacedLaws.{placed_text}
use Rattle.cm_shards_split.specs.Shares.{counts_text, share_bytes, share_count, share_counts, shares}
use Rattle.cm_shards_split.specs.Splits.{IsUnfinished}
use Rattle.cm_shards_split.specs.Streaming.{HasPrefixesOf}
use Rattle.cm_shards_split.specs.declared.part.Part.{Part}
use Rattle.cm_shards_split.specs.declared.stop.SplitStop.{SplitStop}
use Rattle.cm_shards_words.specs.declared.jobs.SplitJob.{SplitJob}
use Rattle.cm_tool_building.specs.Stores.{Stores}

-- prefixes of the shares of the lines of the keys file
pub prefixes_left : (job : SplitJob) (base new : Option Files) (files : Files) (told : Option Told) (status : ℕ) → base ≡ Some files → IsToldOf job base told → HasPrefixesOf (plan_of job base) told new → IsUnfinished job files status new
prefixes_left job base new files told status known is prefixes =
    let source = is files known in
    let has = prefixes (told_of job source.0) source.2 in
    record {
      bytes = source.0;
      parts = has.written;
      text = [];
      there = source.1;
      files_are = has.files_are ∙ ap (option_map (placed job.dir has.written [])) known;
      prefixes = record { few = has.few; prefixes = has.prefixes };
      counts = inl refl;
      unread = λ _. refl;
    }

-- those of lines that are split, which are those of the keys file
pub ended_prefixes : (job : SplitJob) (base new : Option Files) (files : Files) (fault : Option KeyFault) (parts : List Part) (old : Option Files) (status : ℕ) (ended : HasEndedOf job base fault parts old) → base ≡ Some files
    → HasPrefixes (plan_of job base) ended.2.lines new → IsUnfinished job files status new
ended_prefixes job base new files fault parts old status ended known has =
    prefixes_left job base new files ended.0 status known ended.1 (λ t is. subst (λ (l : List (List ℕ)). HasPrefixes (plan_of job base) l new) (sym (ended.2.all t is).0) has)

-- all is written but the counts
pub all_written : (job : SplitJob) (base new : Option Files) (files : Files) (fault : Option KeyFault) (parts : List Part) (old : Option Files) (ended : HasEndedOf job base fault parts old) → base ≡ Some files
    → Written job.dir base (shares (route_of job) job.end ended.2.lines) new → IsSplitInto job files new fault (λ lines. [])
all_written job base new files fault parts old ended known written =
    let source = ended.1 files known in
    let all = ended.2.all (told_of job source.0) source.2 in
    (source.0, source.1, all.1, written ∙ ap (option_map (placed job.dir (shares (route_of job) job.end ended.2.lines) [])) known ∙ ap (λ (l : List (List ℕ)). Some (placed job.dir (shares (route_of job) job.end l) [] files)) (sym all.0))

-- the counts of the lines
pub counts_are : (job : SplitJob) (base : Option Files) (files : Files) (fault : Option KeyFault) (parts : List Part) (old : Option Files) (ended : HasEndedOf job base fault parts old) → base ≡ Some files → (bytes : List ℕ) → ended.0 ≡ Some (told_of job bytes)
    → counts_of parts ≡ share_counts (route_of job) (lines_of (told_of job bytes))
counts_are job base files fault parts old ended known bytes is =
    fill_by_all (share_count (route_of job) ended.2.lines) (counts_of parts) job.shards 0 ended.2.stands.split.many_counts ended.2.stands.split.counts_are
    ∙ ap (share_counts (route_of job)) (sym (ended.2.all (told_of job bytes) is).0)

-- whole shares are prefixes of themselves, with a prefix of the counts
whole_left : (job : SplitJob) (files : Files) (new : Option Files) (bytes text : List ℕ) (status : ℕ) → file_at files job.keys ≡ Some bytes → (told_of job bytes).fault ≡ None → new ≡ Some (placed job.dir (shares (route_of job) job.end (lines_of (told_of job bytes))) text files)
    → ((n : ℕ) × (text ≡ take n (counts_text (share_counts (route_of job) (lines_of (told_of job bytes)))))) → (status ≡ 4 → text ≡ []) → IsUnfinished job files status new
whole_left job files new bytes text status there sound is prefix unread =
    let lines = lines_of (told_of job bytes) in
    let share : ℕ → List ℕ = share_bytes (route_of job) job.end lines in
    let long : length (shares (route_of job) job.end lines) ≡ job.shards = length-map-range_with_len share 0 job.shards in
    record {
      bytes = bytes;
      parts = shares (route_of job) job.end lines;
      text = text;
      there = there;
      files_are = is;
      prefixes = record {
        few = omega (arith, long);
        prefixes = λ k inside. (length (share k), get_or-map-range_with_len share 0 job.shards k k [] (omega (arith, inside, long)) (omega arith) ∙ sym (take_all (length (share k)) (share k) (omega arith)));
      };
      counts = inr (sound, record { whole = refl; prefix = prefix });
      unread = unread;
    }

-- how a file that was stored ends a split
abbrev pub result_from : Result (Unit {0}) DiskFault → Result (Unit {0}) SplitStop
result_from (Ok _) = Ok tt
result_from (Err fault) = Err (stop_from_disk fault)

-- the counts were written, or a prefix of them
pub counts_left : (job : SplitJob) (files : Files) (mid new : Option Files) (path text : List ℕ) (result : Result (Unit {0}) DiskFault) (split : IsSplitInto job files mid None (λ lines. [])) → path ≡ counts_path job.dir
    → text ≡ counts_text (share_counts (route_of job) (lines_of (told_of job split.0))) → Stores path text mid new result → LeavesFiles job files new (result_from result)
counts_left job files mid new path text (Ok _) split is text_is stored =
    let parts = shares (route_of job) job.end (lines_of (told_of job split.0)) in
    (split.0, split.1, split.2, stored ∙ ap (with_file path text) split.3 ∙ ap (λ (p : List ℕ). Some (map.insert (placed job.dir parts [] files) p text)) is ∙ ap Some (placed_text job.dir parts [] text files) ∙ ap (λ (t : List ℕ). Some (placed job.dir parts t files)) text_is)
counts_left job files mid new path text (Err disk_fault.Memory) split is text_is (inl same) = inr (whole_left job files new split.0 [] 6 split.1 split.2 (same ∙ split.3) (0, refl) (λ _. refl))
counts_left job files mid new path text (Err disk_fault.Memory) split is text_is (inr empty) =
    let parts = shares (route_of job) job.end (lines_of (told_of job split.0)) in
    inr (whole_left job files new split.0 [] 6 split.1 split.2 (empty ∙ ap (with_file path []) split.3 ∙ ap (λ (p : List ℕ). Some (map.insert (placed job.dir parts [] files) p [])) is ∙ ap Some (placed_text job.dir parts [] [] files)) (0, refl) (λ _. refl))
counts_left job files mid new path text (Err disk_fault.Failed) split is text_is (inl same) = ((split.0, split.1), inr (whole_left job files new split.0 [] 5 split.1 split.2 (same ∙ split.3) (0, refl) (λ _. refl)))
counts_left job files mid new path text (Err disk_fault.Failed) split is text_is (inr part) =
    let parts = shares (route_of job) job.end (lines_of (told_of job split.0)) in (
      (split.0, split.1),
      inr (whole_left job files new split.0 (take part.0 text) 5 split.1 split.2
          (part.1 ∙ ap (with_file path (take part.0 text)) split.3 ∙ ap (λ (p : List ℕ). Some (map.insert (placed job.dir parts [] files) p (take part.0 text))) is ∙ ap Some (placed_text job.dir parts [] (take part.0 text) files))
          (part.0, ap (take part.0) text_is) (λ four. absurd (omega (arith, four)))),
    )

-- what waited could not be written
pub rest_left : (job : SplitJob) (base new : Option Files) (files : Files) (fault : Option KeyFault) (parts : List Part) (old : Option Files) (stop : SplitStop) (ended : HasEndedOf job base fault parts old) → base ≡ Some files → (disk : DiskFault) → stop ≡ stop_from_disk disk
    → HasPrefixes (plan_of job base) ended.2.lines new → LeavesFiles job files new (Err stop)
rest_left job base new files fault parts old stop ended known disk_fault.Memory is has = subst (λ (s : SplitStop). LeavesFiles job files new (Err s)) (sym is) (inr (ended_prefixes job base new files fault parts old 6 ended known has))
rest_left job base new files fault parts old stop ended known disk_fault.Failed is has =
    let source = ended.1 files known in
    subst (λ (s : SplitStop). LeavesFiles job files new (Err s)) (sym is) ((source.0, source.1), inr (ended_prefixes job base new files fault parts old 5 ended known has))

-- what was left before all lines were split
pub source_files : (job : SplitJob) (base new : Option Files) (files : Files) (status : ℕ) → base ≡ Some files → (new ≡ base) ⊎ ((told : Option Told) × IsToldOf job base told × HasPrefixesOf (plan_of job base) told new) → (new ≡ Some files) ⊎ IsUnfinished job files status new
source_files job base new files status known (inl same) = inl (same ∙ known)
source_files job base new files status known (inr prefixes) = inr (prefixes_left job base new files prefixes.0 status known prefixes.1 prefixes.2)

-- all was written, and then the counts
pub whole_written : (job : SplitJob) (base mid new : Option Files) (files : Files) (parts now : List Part) (old : Option Files) (path : List ℕ) (result : Result (Unit {0}) DiskFault) (ended : HasEndedOf job base None parts old) → base ≡ Some files
    → Written job.dir base (shares (route_of job) job.end ended.2.lines) mid → counts_of now ≡ counts_of parts → path ≡ counts_path job.dir → Stores path (counts_text (counts_of now)) mid new result → LeavesFiles job files new (result_from result)
whole_written job base mid new files parts now old path result ended known written kept is stored =
    let source = ended.1 files known in
    let all = ended.2.all (told_of job source.0) source.2 in
    let files_are : mid ≡ Some (placed job.dir (shares (route_of job) job.end (lines_of (told_of job source.0))) [] files) =
    written ∙ ap (option_map (placed job.dir (shares (route_of job) job.end ended.2.lines) [])) known ∙ ap (λ (l : List (List ℕ)). Some (placed job.dir (shares (route_of job) job.end l) [] files)) (sym all.0) in
    let split : IsSplitInto job files mid None (λ lines. []) = (source.0, source.1, all.1, files_are) in
    counts_left job files mid new path (counts_text (counts_of now)) result split is (ap counts_text (kept ∙ counts_are job base files None parts old ended known source.0 source.2)) stored
