-- From the lines of a keys file to what a split leaves.
use Rattle.std.proofs.Common.{◌≡◌, ◌∙◌, ◌⊎◌, ℕ, ◌<◌, ◌≤◌, ◌^◌, lit<, List, [], ◌++◌, length, map, drop, replicate, get_or, Option, Result, Ok, Err, inl, inr, ap, sym, arith}
use Rattle.std.proofs.lemmas.List.{get_or-replicate, length-map, length-replicate}
use Rattle.cm_io.specs.Causes.{Collects}
use Rattle.cm_io.specs.Files.{Files}
use Rattle.cm_io.specs.Passes.{Told}
use Rattle.cm_keys.specs.Streams.{LineStream}
use Rattle.cm_route.specs.Routes.{Route}
use Rattle.cm_shards_split.specs.Leaves.{IsToldOf, LeavesLines, LeavesSource, plan_of}
use Rattle.cm_shards_split.specs.Parts.{AreNew, HavePaths, Stands, Written, waiting_of}
use Rattle.cm_shards_split.specs.Plans.{Plan, plan}
use Rattle.cm_shards_split.specs.Streaming.{EndsTo, HasPrefixesOf, HasSplitCause, IsStreaming}
use Rattle.cm_shards_split.specs.declared.part.Part.{Part}
use Rattle.cm_shards_split.specs.declared.stop.SplitStop.{SplitStop}
use Rattle.cm_shards_split.specs.declared.stop.SplitStop.TheVariants.{Memory, Read, TooLong, TooMany, Write}
use Rattle.cm_shards_split.proofs.Sharing.{count_none, share_none}
use Rattle.cm_shards_words.specs.declared.jobs.SplitJob.{SplitJob}

-- new shards have the paths of those in the folder
pub new_paths : {dir : List ℕ} {shards : ℕ} {parts : List Part} → AreNew dir shards parts → shards ≤ 4096 → HavePaths dir parts
new_paths new few = record { few = omega (arith, few, new.many); paths = new.paths }

-- no line is split into files that were created
pub stands_new : {dir : List ℕ} {parts : List Part} (base : Option Files) (route : Route) (end : ℕ) (files : Option Files) → AreNew dir route.shards parts → route.shards ≤ 4096 → Written dir base (replicate route.shards []) files → Stands (plan dir base route end) [] parts files
stands_new {parts = parts} base route end files new few written = record {
  written = replicate route.shards [];
  files_are = written;
  paths = new_paths new few;
  split = record {
    many_written = length-replicate route.shards [];
    many_waiting = length-map parts (λ (part : Part). part.waiting) ∙ new.many;
    many_counts = length-map parts (λ (part : Part). part.count) ∙ new.many;
    bytes = λ k below. ap (λ (l : List ℕ). l ++ get_or (waiting_of parts) k []) (get_or-replicate route.shards k [] [] below) ∙ new.none k (omega (arith, below, new.many)) ∙ sym (share_none route end k);
    counts_are = λ k below. new.counts k (omega (arith, below, new.many)) ∙ sym (count_none route k);
  };
}

pub streaming_new : (p : Plan) {parts : List Part} (stream : LineStream) (files : Option Files) → stream.count ≡ 0 → AreNew p.dir p.route.shards parts → p.route.shards ≤ 4096 → Written p.dir p.base (replicate p.route.shards []) files → IsStreaming p stream parts files
streaming_new p stream files start new few written = record {
  lines = [];
  stands = stands_new p.base p.route p.end files new few written;
  long = sym start;
  left = λ told is. ap (λ (n : ℕ). map (λ (line : ℕ × List ℕ). line.1) (drop n told.keys)) (sym start);
}

-- files that were created are prefixes of any shares
pub created_prefixes : (p : Plan) (told : Option Told) (files : Option Files) → (m : ℕ) × (m ≤ p.route.shards) × Written p.dir p.base (replicate m []) files → HasPrefixesOf p told files
created_prefixes p told files created = λ t is.
    let m : ℕ = created.0 in
    let long : length (replicate {A = List ℕ} m []) ≡ m = length-replicate m [] in
    record {
      written = replicate m [];
      files_are = created.2;
      few = omega (arith, created.1, long);
      prefixes = λ k inside. (0, get_or-replicate m k [] [] (omega (arith, inside, long)));
    }

-- how the lines ended, as what they left
pub lines_left : (p : Plan) (told : Option Told) (parts : List Part) (files : Option Files) (end : Result (Unit {0}) SplitStop) → EndsTo p told parts files end → LeavesLines p told parts files end
lines_left p told parts files (Ok _) ends = ends
lines_left p told parts files (Err Memory) ends = inr ends
lines_left p told parts files (Err Read) ends = inr ends
lines_left p told parts files (Err Write) ends = inr ends
lines_left p told parts files (Err (TooLong line)) ends = ends
lines_left p told parts files (Err TooMany) ends = ends

not_split : (job : SplitJob) (base new : Option Files) (told : Option Told) → IsToldOf job base told → (new ≡ base) ⊎ HasPrefixesOf (plan_of job base) told new → (new ≡ base) ⊎ ((told : Option Told) × IsToldOf job base told × HasPrefixesOf (plan_of job base) told new)
not_split job base new told is (inl same) = inl same
not_split job base new told is (inr prefixes) = inr (told, is, prefixes)

-- and that of an open file
pub source_left : (job : SplitJob) (base : Option Files) (told : Option Told) (parts : List Part) (new : Option Files) (end : Result (Unit {0}) SplitStop) → IsToldOf job base told → LeavesLines (plan_of job base) told parts new end → LeavesSource job base parts new end
source_left job base told parts new (Ok _) is left = (told, is, left)
source_left job base told parts new (Err Memory) is left = not_split job base new told is left
source_left job base told parts new (Err Read) is left = not_split job base new told is left
source_left job base told parts new (Err Write) is left = (λ files known. ((is files known).0, (is files known).1), not_split job base new told is left)
source_left job base told parts new (Err (TooLong line)) is left = (told, is, left)
source_left job base told parts new (Err TooMany) is left = (told, is, left)

-- the counts of a disk that took back the reader of the lines
pub cause_shut : (r r' w w' fresh count : ℕ) (end : Result (Unit {0}) SplitStop) → HasSplitCause fresh count w w' end → fresh ≡ 0 → Collects count r r' → HasSplitCause r r' w w' end
cause_shut r r' w w' fresh count (Ok _) cause is shut = (shut.none (cause.0 ∙ is), cause.1)
cause_shut r r' w w' fresh count (Err Memory) cause is shut = (shut.none (cause.0 ∙ is), cause.1)
cause_shut r r' w w' fresh count (Err Read) cause is shut =
    let low : fresh < 2 ^ 63 = rw is (lit< tt) in
    (shut.later, shut.some (omega (arith, cause.1 low)), cause.2)
cause_shut r r' w w' fresh count (Err Write) cause is shut = (shut.none (cause.0 ∙ is), cause.1, cause.2)
cause_shut r r' w w' fresh count (Err (TooLong line)) cause is shut = (shut.none (cause.0 ∙ is), cause.1)
cause_shut r r' w w' fresh count (Err TooMany) cause is shut = (shut.none (cause.0 ∙ is), cause.1)
