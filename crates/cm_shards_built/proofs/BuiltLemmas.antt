-- What the theorem of `cmph` says of a build over the file of a shard.
use Rattle.std.proofs.Common.{◌≡◌, ◌≢◌, ◌∙◌, ℕ, List, length, Option, None, Some, Ok, ap, refl, sym, subst, arith}
use Rattle.std.proofs.lemmas.Option.{same_Some}
use Rattle.cm_algo_names.specs.declared.algorithm.Algorithm.{Algorithm}
use Rattle.cm_algo_names.specs.declared.algorithm.Algorithm.TheVariants.{Bdz, BdzPh, Brz, Chm}
use Rattle.cm_bdz.specs.Numbering.{AnswersApart}
use Rattle.cm_chm.specs.Numbering.{AnswersNumbers}
use Rattle.cm_dump.specs.Spelling.{spelling_of}
use Rattle.cm_func.specs.Functions.{IsFunction, answer_by, span_by}
use Rattle.cm_func.specs.declared.function.Func.{Func}
use Rattle.cm_func.specs.declared.function.Func.TheVariants as func
use Rattle.cm_io.specs.Files.{Files, file_at}
use Rattle.cm_io.specs.Passes.{Told}
use Rattle.cm_io.specs.States.{Outside}
use Rattle.cm_keys.specs.Lines.{keys_in}
use Rattle.cm_shards.specs.Numbered.{shard_keys}
use Rattle.cm_shards_built.specs.Built.{BuildsShard, SavesShard}
use Rattle.cm_shards_split.specs.Outcomes.{lines_of, route_of, told_of}
use Rattle.cm_shards_split.specs.Shares.{share_bytes}
use Rattle.cm_shards_words.specs.declared.jobs.SplitJob.{SplitJob}
use Rattle.cm_spec.specs.Built.{key_at}
use Rattle.cm_spec.specs.Chm as chm
use Rattle.cm_spec.specs.Chm.{chm_answer}
use Rattle.cm_tool.specs.Building.{building_of}
use Rattle.cm_tool.specs.Numbers.{AnswersOf, IsBy, SavedNumbers}
use Rattle.cm_tool_building.specs.SavedLaws.{has_saved}
use Rattle.cm_words.specs.declared.jobs.BuildJob.{BuildJob}

-- if each key has its index, no two keys have the same number
indices_apart : (keys : List (ℕ × List ℕ)) (f : chm.Chm) → f.keys ≡ length keys → AnswersNumbers keys f → AnswersApart keys (λ key. Some (chm_answer f key)) f.keys
indices_apart keys f many numbers = record {
  below = λ i inside. (chm_answer f (key_at keys i), refl, omega (arith, many, inside, numbers i inside));
  apart = λ i j in_i in_j same. omega (arith, same_Some _ _ same, numbers i in_i, numbers j in_j);
}

-- the answers of a function that a build saved are apart, below its span
answers_apart : (keys : List (ℕ × List ℕ)) (f : Func) → AnswersOf keys f → AnswersApart keys (answer_by f) (span_by f)
answers_apart keys (func.Chm f) of = indices_apart keys f of.1 of.0
answers_apart keys (func.Bdz f) of = subst (AnswersApart keys (answer_by (func.Bdz f))) (sym of.1) of.0
answers_apart keys (func.BdzPh f) of = of.0
answers_apart keys (func.Brz f) of = subst (AnswersApart keys (answer_by (func.Brz f))) (sym of.1) of.0

-- and the span is the number of the keys, except by BDZ_PH
span_is : (algorithm : Algorithm) (keys : List (ℕ × List ℕ)) (f : Func) → algorithm ≢ BdzPh → IsBy algorithm f → AnswersOf keys f → span_by f ≡ length keys
span_is algorithm keys (func.Chm f) other by of = of.1
span_is algorithm keys (func.Bdz f) other by of = of.1
span_is algorithm keys (func.Brz f) other by of = of.1
span_is Chm keys (func.BdzPh f) other by of = absurd by
span_is Bdz keys (func.BdzPh f) other by of = absurd by
span_is BdzPh keys (func.BdzPh f) other by of = absurd (other refl)
span_is Brz keys (func.BdzPh f) other by of = absurd by

-- the keys that a build reads are those of the shard
keys_are : (job : SplitJob) (bytes : List ℕ) (k : ℕ) (build : BuildJob) (read : List ℕ) → build.first ≡ None → build.end ≡ job.end → read ≡ share_bytes (route_of job) job.end (lines_of (told_of job bytes)) k
    → keys_in build.first build.end read ≡ shard_keys job bytes k
keys_are job bytes k build read all end is = ap (λ (first : Option ℕ). keys_in first build.end read) all ∙ ap (λ (e : ℕ). keys_in None e read) end ∙ ap (keys_in None job.end) is

-- what a build saved
saves : (job : SplitJob) (bytes : List ℕ) (k : ℕ) (build : BuildJob) (new : Outside) (told : Told) → told ≡ shard_keys job bytes k → told.fault ≡ None
    → (after : Files) → new.disk.files ≡ Some after → (dump : List ℕ) → file_at after build.function ≡ Some dump → (f : Func) → spelling_of dump ≡ Ok f → IsFunction f → IsBy build.algorithm f → AnswersOf told.keys f → SavesShard job bytes k build new
saves job bytes k build new told is sound after known dump there f spells valid by of = record {
  files = after;
  known = known;
  dump = dump;
  there = there;
  f = f;
  spells = spells;
  valid = valid;
  built = record { sound = ap (λ (t : Told). t.fault) (sym is) ∙ sound; apart = subst (λ (t : Told). AnswersApart t.keys (answer_by f) (span_by f)) is (answers_apart told.keys f of) };
  full = λ other. subst (λ (t : Told). span_by f ≡ length t.keys) is (span_is build.algorithm told.keys f other by of);
}

pub saves_shard : (job : SplitJob) (bytes : List ℕ) (k : ℕ) (build : BuildJob) (old new : Outside) → BuildsShard job bytes k build old new → SavesShard job bytes k build new
saves_shard job bytes k build old new b =
    let numbers : SavedNumbers b.files new.disk.files build = b.runs.numbers refl b.files b.known in
    let known = (has_saved (building_of build) old new 0 b.runs.builds refl b.files b.known).known in
    let read = numbers.0 in
    let same : known.bytes ≡ read = same_Some _ _ (sym known.there ∙ numbers.4) in
    let is : read ≡ share_bytes (route_of job) job.end (lines_of (told_of job bytes)) k = same_Some _ _ (sym numbers.4 ∙ b.over) in
    let sound : (keys_in build.first build.end read).fault ≡ None = subst (λ (x : List ℕ). (keys_in build.first build.end x).fault ≡ None) same known.makes.made.no_fault in
    saves job bytes k build new (keys_in build.first build.end read) (keys_are job bytes k build read b.all b.end is) sound
    numbers.3 numbers.5 numbers.1 numbers.6 numbers.2 numbers.7 numbers.8 numbers.9 numbers.10
