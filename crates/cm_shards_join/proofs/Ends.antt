-- From the end of a join to what the top call promises.
use Rattle.std.proofs.Common.{◌≡◌, ◌≢◌, ◌∙◌, ◌⊎◌, ◌↔◌, ℕ, ◌<◌, ◌^◌, List, [], Option, None, Some, Err, true, false, inl, inr, refl, ap, sym, arith}
use Rattle.std.specs.Option.{ForSome, option_map}
use Rattle.cm_io.specs.Files.{Files, with_file}
use Rattle.cm_io.specs.States.{Outside}
use Rattle.cm_io.specs.declared.fault.DiskFault.{DiskFault}
use Rattle.cm_io.specs.declared.fault.DiskFault.TheVariants as disk_fault
use Rattle.cm_shards_join.specs.Joins.{StoppedReading, frame_of}
use Rattle.cm_shards_join.specs.Leaves.{EndsStop, IsCutShort, IsJoined, IsReadCause, IsStopCause, LeavesStop}
use Rattle.cm_shards_join.specs.Outcomes.{outcome_by, outcome_of, saving}
use Rattle.cm_shards_join.specs.Taking.{join_of}
use Rattle.cm_shards_join.specs.Texts.{message_of, status_of}
use Rattle.cm_shards_join.specs.declared.stop.JoinStop.{JoinStop}
use Rattle.cm_shards_join.specs.declared.stop.JoinStop.TheVariants.{Another, BadCounts, BadDump, BadName, Memory, Read, Write}
use Rattle.cm_shards_manifest.specs.Manifests.{Manifest}
use Rattle.cm_shards_words.specs.declared.jobs.JoinJob.{JoinJob}
use Rattle.cm_spec.specs.Lists.{has}
use Rattle.cm_tool_building.specs.Stores.{Stores}
use Rattle.cm_tool_stops.specs.DoesLaws.{neither}
use Rattle.cm_tool_stops.specs.Ending.{Outcome, refusal}
use Rattle.cm_tool_stops.specs.Ends.{Says}

pub none_some : {o : Outcome} → None ≡ Some o → ⊥
none_some e = absurd (cc)

-- ---- steps

-- a step that wrote nothing
pub read_cause : (r r' w w' : ℕ) (stop : JoinStop) → IsReadCause r r' stop → w' ≡ w → IsStopCause r r' w w' stop
read_cause r r' w w' Memory cause same = (cause, same)
read_cause r r' w w' (Read path) cause same = (cause.0, cause.1, same)
read_cause r r' w w' Write cause same = absurd cause
read_cause r r' w w' (BadName path) cause same = (cause, same)
read_cause r r' w w' (BadDump path fault) cause same = (cause, same)
read_cause r r' w w' (Another path) cause same = (cause, same)
read_cause r r' w w' (BadCounts path line) cause same = (cause, same)

pub made_leaves : (job : JoinJob) (r r' : ℕ) (old new : Option Files) (stop : JoinStop) → IsReadCause r r' stop → new ≡ old → ForSome old (λ files. EndsStop job files stop) → LeavesStop job old new stop
made_leaves job r r' old new Memory cause same ends = inl same
made_leaves job r r' old new (Read path) cause same ends = (same, ends)
made_leaves job r r' old new Write cause same ends = absurd cause
made_leaves job r r' old new (BadName path) cause same ends = (same, ends)
made_leaves job r r' old new (BadDump path fault) cause same ends = (same, ends)
made_leaves job r r' old new (Another path) cause same ends = (same, ends)
made_leaves job r r' old new (BadCounts path line) cause same ends = (same, ends)

-- a manifest that was not created
pub none_stored : (path bytes : List ℕ) (old new : Option Files) (fault : DiskFault) → new ≡ old → Stores path bytes old new (Err fault)
none_stored path bytes old new disk_fault.Memory same = inl same
none_stored path bytes old new disk_fault.Failed same = inl same

-- ---- the status

pub stop_listed : (job : JoinJob) (stop : JoinStop) → has (frame_of job).statuses (status_of stop) ≡ true
stop_listed job Memory = refl
stop_listed job (Read path) = refl
stop_listed job Write = refl
stop_listed job (BadName path) = refl
stop_listed job (BadDump path fault) = refl
stop_listed job (Another path) = refl
stop_listed job (BadCounts path line) = refl

pub stop_high : (stop : JoinStop) → 2 < status_of stop
stop_high Memory = omega arith
stop_high (Read path) = omega arith
stop_high Write = omega arith
stop_high (BadName path) = omega arith
stop_high (BadDump path fault) = omega arith
stop_high (Another path) = omega arith
stop_high (BadCounts path line) = omega arith

-- it is 4 exactly if the count of reading rose
pub stop_read : (stop : JoinStop) (r r' w w' : ℕ) → IsStopCause r r' w w' stop → r < 2 ^ 63 → (status_of stop ≡ 4) ↔ (r < r')
stop_read Memory r r' w w' cause low = (λ four. absurd (omega (arith, four)), λ rose. absurd (omega (arith, rose, cause.0)))
stop_read (Read path) r r' w w' cause low = (λ _. cause.1 low, λ _. refl)
stop_read Write r r' w w' cause low = (λ four. absurd (omega (arith, four)), λ rose. absurd (omega (arith, rose, cause.0)))
stop_read (BadName path) r r' w w' cause low = (λ four. absurd (omega (arith, four)), λ rose. absurd (omega (arith, rose, cause.0)))
stop_read (BadDump path fault) r r' w w' cause low = (λ four. absurd (omega (arith, four)), λ rose. absurd (omega (arith, rose, cause.0)))
stop_read (Another path) r r' w w' cause low = (λ four. absurd (omega (arith, four)), λ rose. absurd (omega (arith, rose, cause.0)))
stop_read (BadCounts path line) r r' w w' cause low = (λ four. absurd (omega (arith, four)), λ rose. absurd (omega (arith, rose, cause.0)))

-- and 5 exactly if that of writing rose, as nothing is written to out
pub stop_write : (stop : JoinStop) (r r' w w' o : ℕ) → IsStopCause r r' w w' stop → w < 2 ^ 63 → (status_of stop ≡ 5) ↔ ((w < w') ⊎ (o < o))
stop_write Memory r r' w w' o cause low = (λ five. absurd (omega (arith, five)), λ either. neither w w' o o cause.1 refl either)
stop_write (Read path) r r' w w' o cause low = (λ five. absurd (omega (arith, five)), λ either. neither w w' o o cause.2 refl either)
stop_write Write r r' w w' o cause low = (λ _. inl (cause.2 low), λ _. refl)
stop_write (BadName path) r r' w w' o cause low = (λ five. absurd (omega (arith, five)), λ either. neither w w' o o cause.1 refl either)
stop_write (BadDump path fault) r r' w w' o cause low = (λ five. absurd (omega (arith, five)), λ either. neither w w' o o cause.1 refl either)
stop_write (Another path) r r' w w' o cause low = (λ five. absurd (omega (arith, five)), λ either. neither w w' o o cause.1 refl either)
stop_write (BadCounts path line) r r' w w' o cause low = (λ five. absurd (omega (arith, five)), λ either. neither w w' o o cause.1 refl either)

-- it is never 7
pub stop_known : (stop : JoinStop) → status_of stop ≢ 7
stop_known Memory = λ seven. omega (arith, seven)
stop_known (Read path) = λ seven. omega (arith, seven)
stop_known Write = λ seven. omega (arith, seven)
stop_known (BadName path) = λ seven. omega (arith, seven)
stop_known (BadDump path fault) = λ seven. omega (arith, seven)
stop_known (Another path) = λ seven. omega (arith, seven)
stop_known (BadCounts path line) = λ seven. omega (arith, seven)

-- ---- the outcome

pub joined_outcome : (job : JoinJob) (files : Files) (m : Manifest) → IsJoined job files m → outcome_of job files ≡ Some (saving job files m)
joined_outcome job files m is = ap (option_map (outcome_by job files)) is.joined

stop_is : (job : JoinJob) (files : Files) (stop : JoinStop) → join_of job files ≡ Some (Err stop) → outcome_of job files ≡ Some (refusal (status_of stop) (message_of job stop) files)
stop_is job files stop is = ap (option_map (outcome_by job files)) is

-- that of a join that was refused
pub stop_outcome : (job : JoinJob) (files : Files) (old new : Option Files) (stop : JoinStop) → LeavesStop job old new stop → old ≡ Some files → status_of stop ≢ 4 → status_of stop ≢ 5 → status_of stop ≢ 6 → (outcome_of job files ≡ Some (refusal (status_of stop) (message_of job stop) files)) × (new ≡ Some files)
stop_outcome job files old new Memory left known four five six = absurd (six refl)
stop_outcome job files old new (Read path) left known four five six = absurd (four refl)
stop_outcome job files old new Write left known four five six = absurd (five refl)
stop_outcome job files old new (BadName path) left known four five six = (stop_is job files (BadName path) (left.1 files known), left.0 ∙ known)
stop_outcome job files old new (BadDump path fault) left known four five six = (stop_is job files (BadDump path fault) (left.1 files known), left.0 ∙ known)
stop_outcome job files old new (Another path) left known four five six = (stop_is job files (Another path) (left.1 files known), left.0 ∙ known)
stop_outcome job files old new (BadCounts path line) left known four five six = (stop_is job files (BadCounts path line) (left.1 files known), left.0 ∙ known)

-- a refused join, and one that could not read, left every file as it was
pub stop_kept : (job : JoinJob) (old new : Option Files) (stop : JoinStop) → LeavesStop job old new stop → has (frame_of job).saves (status_of stop) ≡ false → new ≡ old
stop_kept job old new Memory left lacks = absurd (cc)
stop_kept job old new (Read path) left lacks = left.0
stop_kept job old new Write left lacks = absurd (cc)
stop_kept job old new (BadName path) left lacks = left.0
stop_kept job old new (BadDump path fault) left lacks = left.0
stop_kept job old new (Another path) left lacks = left.0
stop_kept job old new (BadCounts path line) left lacks = left.0

-- one that could not read
pub stop_unread : (job : JoinJob) (old new : Outside) (files : Files) (stop : JoinStop) → LeavesStop job old.disk.files new.disk.files stop → old.disk.files ≡ Some files → Says old.err new.err (message_of job stop) → status_of stop ≡ 4 → StoppedReading job old new files
stop_unread job old new files Memory left known says four = absurd (omega (arith, four))
stop_unread job old new files (Read path) left known says four = (path, left.1 files known, says)
stop_unread job old new files Write left known says four = absurd (omega (arith, four))
stop_unread job old new files (BadName path) left known says four = absurd (omega (arith, four))
stop_unread job old new files (BadDump path fault) left known says four = absurd (omega (arith, four))
stop_unread job old new files (Another path) left known says four = absurd (omega (arith, four))
stop_unread job old new files (BadCounts path line) left known says four = absurd (omega (arith, four))

-- one that could not write
pub stop_part : (job : JoinJob) (old new : Option Files) (stop : JoinStop) → LeavesStop job old new stop → status_of stop ≡ 5 → ForSome old (IsCutShort job old new)
stop_part job old new Memory left five = absurd (omega (arith, five))
stop_part job old new (Read path) left five = absurd (omega (arith, five))
stop_part job old new Write left five = left
stop_part job old new (BadName path) left five = absurd (omega (arith, five))
stop_part job old new (BadDump path fault) left five = absurd (omega (arith, five))
stop_part job old new (Another path) left five = absurd (omega (arith, five))
stop_part job old new (BadCounts path line) left five = absurd (omega (arith, five))

-- one without memory
emptied : (job : JoinJob) (old new : Option Files) → LeavesStop job old new Memory → (new ≡ old) ⊎ (new ≡ with_file job.manifest [] old)
emptied job old new (inl same) = inl same
emptied job old new (inr left) = inr left.0

pub stop_memory : (job : JoinJob) (old new : Option Files) (stop : JoinStop) → LeavesStop job old new stop → status_of stop ≡ 6 → (new ≡ old) ⊎ (new ≡ with_file job.manifest [] old)
stop_memory job old new Memory left six = emptied job old new left
stop_memory job old new (Read path) left six = absurd (omega (arith, six))
stop_memory job old new Write left six = absurd (omega (arith, six))
stop_memory job old new (BadName path) left six = absurd (omega (arith, six))
stop_memory job old new (BadDump path fault) left six = absurd (omega (arith, six))
stop_memory job old new (Another path) left six = absurd (omega (arith, six))
stop_memory job old new (BadCounts path line) left six = absurd (omega (arith, six))

-- a stop over files by which there is no outcome
lacks_memory : (job : JoinJob) (files : Files) (old new : Option Files) → LeavesStop job old new Memory → old ≡ Some files → outcome_of job files ≡ None → new ≡ old
lacks_memory job files old new (inl same) known none = same
lacks_memory job files old new (inr left) known none = let is = left.1 files known in absurd (none_some (sym none ∙ joined_outcome job files is.0 is.1))

pub stop_lacks : (job : JoinJob) (files : Files) (old new : Option Files) (stop : JoinStop) → LeavesStop job old new stop → old ≡ Some files → outcome_of job files ≡ None → ((status_of stop ≡ 4) ⊎ (status_of stop ≡ 6)) × (new ≡ old)
stop_lacks job files old new Memory left known none = (inr refl, lacks_memory job files old new left known none)
stop_lacks job files old new (Read path) left known none = (inl refl, left.0)
stop_lacks job files old new Write left known none = let is = left files known in absurd (none_some (sym none ∙ joined_outcome job files is.m is.joined))
stop_lacks job files old new (BadName path) left known none = absurd (none_some (sym none ∙ stop_is job files (BadName path) (left.1 files known)))
stop_lacks job files old new (BadDump path fault) left known none = absurd (none_some (sym none ∙ stop_is job files (BadDump path fault) (left.1 files known)))
stop_lacks job files old new (Another path) left known none = absurd (none_some (sym none ∙ stop_is job files (Another path) (left.1 files known)))
stop_lacks job files old new (BadCounts path line) left known none = absurd (none_some (sym none ∙ stop_is job files (BadCounts path line) (left.1 files known)))
