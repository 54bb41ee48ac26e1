-- The functions that a join takes are those that a query finds.
use Rattle.std.proofs.Common.{◌≡◌, ◌≢◌, ◌∙◌, ◌⊎◌, ℕ, ◌+◌, suc, inl, inr, arith, Bool, true, false, List, [], ◌∷◌, ◌++◌, length, Option, None, Some, Result, Ok, Err, ap, refl, sym, subst, append_assoc, append-nil}
use Rattle.std.specs.Cmp.{nat_eq_equiv}
use Rattle.std.specs.Cmp.Lexicographic.{bytes_decides}
use Rattle.std.specs.FinMap as map
use Rattle.std.specs.Prelude.{if◌then◌else◌, option_map}
use Rattle.cm_algo_names.specs.declared.algorithm.Algorithm.{Algorithm}
use Rattle.cm_algo_names.specs.declared.algorithm.Algorithm.TheVariants as algorithm
use Rattle.cm_dump_items.specs.declared.fault.LoadFault.{LoadFault}
use Rattle.cm_func.specs.Functions.{span_by}
use Rattle.cm_func.specs.declared.function.Func.{Func}
use Rattle.cm_func.specs.declared.function.Func.TheVariants as func
use Rattle.cm_io.specs.Files.{Files, file_at}
use Rattle.cm_io.specs.States.{Outside}
use Rattle.cm_route.specs.declared.route.TheConstants.{ROUTE_SEED}
use Rattle.cm_shards.specs.Joined.{AreFilesOf, IsAsked, sharded}
use Rattle.cm_shards_files.specs.FunctionFiles.{algorithm_by, function_file_in, is_by, keys_by}
use Rattle.cm_shards_files.specs.Loading.{function_of, functions_of, is_of, sharded_if}
use Rattle.cm_shards_files.specs.declared.file.FunctionFile.{FunctionFile}
use Rattle.cm_shards_join.specs.Inputs.{ReadsManifest, ReplacesInput, path_for}
use Rattle.cm_shards_join.specs.Joins.{Joins}
use Rattle.cm_shards_join.specs.Taking.{Comes, Taken, ◌>>=◌, algorithm_or, compare_counts, fits, is_name, join_of, manifest_of, nothing, same_algorithm, shard_by, take_all, take_function, take_loaded, with_shard}
use Rattle.cm_shards_join.specs.declared.stop.JoinStop.{JoinStop}
use Rattle.cm_shards_join.specs.declared.stop.JoinStop.TheVariants as stop
use Rattle.cm_shards_manifest.specs.ManifestBytes.{manifest_bytes}
use Rattle.cm_shards_manifest.specs.ManifestFiles.{manifest_in}
use Rattle.cm_shards_manifest.specs.Manifests.{Manifest, spans}
use Rattle.cm_shards_manifest.specs.Paths.{name_of, path_of}
use Rattle.cm_shards_manifest.specs.declared.shard.Shard.{Shard}
use Rattle.cm_io_append.specs.ExtendingLaws.{get_other, get_same}
use Rattle.cm_shards_words.specs.declared.jobs.JoinJob.{JoinJob}

-- an algorithm that a function has built it
pub built_by : (a : Algorithm) (f : Func) → algorithm_by f ≡ a → is_by a f ≡ true
built_by algorithm.Chm (func.Chm f) is = refl
built_by algorithm.Bdz (func.Bdz f) is = refl
built_by algorithm.BdzPh (func.BdzPh f) is = refl
built_by algorithm.Brz (func.Brz f) is = refl
built_by algorithm.Chm (func.Bdz f) is = absurd (cc)
built_by algorithm.Chm (func.BdzPh f) is = absurd (cc)
built_by algorithm.Chm (func.Brz f) is = absurd (cc)
built_by algorithm.Bdz (func.Chm f) is = absurd (cc)
built_by algorithm.Bdz (func.BdzPh f) is = absurd (cc)
built_by algorithm.Bdz (func.Brz f) is = absurd (cc)
built_by algorithm.BdzPh (func.Chm f) is = absurd (cc)
built_by algorithm.BdzPh (func.Bdz f) is = absurd (cc)
built_by algorithm.BdzPh (func.Brz f) is = absurd (cc)
built_by algorithm.Brz (func.Chm f) is = absurd (cc)
built_by algorithm.Brz (func.Bdz f) is = absurd (cc)
built_by algorithm.Brz (func.BdzPh f) is = absurd (cc)

-- a function file is the one that its own shard speaks of
shard_is_of : (a : Algorithm) (name : List ℕ) (before : ℕ) (file : FunctionFile) → algorithm_by file.function ≡ a → is_of a (shard_by name before file) file ≡ true
shard_is_of a name before file is =
    rw (built_by a file.function is, nat_eq_equiv.refl (keys_by file.function), nat_eq_equiv.refl (span_by file.function), nat_eq_equiv.refl file.len, (bytes_decides file.digest file.digest).1 refl) refl

-- the first algorithm is that of each further function
same_one : (a b : Algorithm) → same_algorithm a b ≡ true → b ≡ a
same_one algorithm.Chm algorithm.Chm is = refl
same_one algorithm.Bdz algorithm.Bdz is = refl
same_one algorithm.BdzPh algorithm.BdzPh is = refl
same_one algorithm.Brz algorithm.Brz is = refl
same_one algorithm.Chm algorithm.Bdz is = absurd (cc)
same_one algorithm.Chm algorithm.BdzPh is = absurd (cc)
same_one algorithm.Chm algorithm.Brz is = absurd (cc)
same_one algorithm.Bdz algorithm.Chm is = absurd (cc)
same_one algorithm.Bdz algorithm.BdzPh is = absurd (cc)
same_one algorithm.Bdz algorithm.Brz is = absurd (cc)
same_one algorithm.BdzPh algorithm.Chm is = absurd (cc)
same_one algorithm.BdzPh algorithm.Bdz is = absurd (cc)
same_one algorithm.BdzPh algorithm.Brz is = absurd (cc)
same_one algorithm.Brz algorithm.Chm is = absurd (cc)
same_one algorithm.Brz algorithm.Bdz is = absurd (cc)
same_one algorithm.Brz algorithm.BdzPh is = absurd (cc)

-- one step that came to something
record Comes_to {A B : Type 0} (x : Comes A) (f : A → Comes B) (y : B) : Type 0 where
  first : A
  is : x ≡ Some (Ok first)
  then_is : f first ≡ Some (Ok y)

comes_to : {A B : Type 0} (x : Comes A) (f : A → Comes B) (y : B) → (x >>= f) ≡ Some (Ok y) → Comes_to x f y
comes_to None f y is = absurd (cc)
comes_to (Some (Err stop)) f y is = absurd (cc)
comes_to (Some (Ok first)) f y is = record { first = first; is = refl; then_is = is }

-- What a function that was taken has: its bytes, and its file, which is in the shards with one more.
record IsTaken (files : Files) (manifest function : List ℕ) (t next : Taken) : Type 0 where
  bytes : List ℕ
  file : FunctionFile
  there : file_at files (path_for manifest function) ≡ Some bytes
  spells : function_file_in bytes ≡ Ok file
  fitting : fits t.algorithm (algorithm_by file.function) ≡ true
  is : next ≡ with_shard t (name_of manifest function) file

loaded : (t next : Taken) (path name : List ℕ) (found : Result FunctionFile LoadFault) → take_loaded t path name found ≡ Ok next
    → (file : FunctionFile) × (found ≡ Ok file) × (fits t.algorithm (algorithm_by file.function) ≡ true) × (next ≡ with_shard t name file)
loaded t next path name (Err fault) is = absurd (cc)
loaded t next path name (Ok file) is = go (fits t.algorithm (algorithm_by file.function)) refl is
  where
    go : (b : Bool) → fits t.algorithm (algorithm_by file.function) ≡ b → (let r : Result Taken JoinStop = if b then Ok (with_shard t name file) else Err (stop.Another path) in r ≡ Ok next)
        → (file' : FunctionFile) × (let r : Result FunctionFile LoadFault = Ok file in r ≡ Ok file') × (fits t.algorithm (algorithm_by file'.function) ≡ true) × (next ≡ with_shard t name file')
    go true fit same = (file, refl, fit, cc)
    go false fit same = absurd (cc)

read : (files : Files) (manifest function : List ℕ) (t next : Taken) (found : Option (List ℕ)) → file_at files (path_for manifest function) ≡ found
    → option_map (λ bytes. take_loaded t (path_for manifest function) (name_of manifest function) (function_file_in bytes)) found ≡ Some (Ok next) → IsTaken files manifest function t next
read files manifest function t next None there is = absurd (cc)
read files manifest function t next (Some bytes) there is =
    let l = loaded t next (path_for manifest function) (name_of manifest function) (function_file_in bytes) (cc) in
    record { bytes = bytes; file = l.0; there = there; spells = l.1; fitting = l.2; is = l.3 }

taken : (files : Files) (manifest function : List ℕ) (t next : Taken) → take_function files manifest t function ≡ Some (Ok next) → IsTaken files manifest function t next
unfolding take_function
taken files manifest function t next is = go (is_name (name_of manifest function)) is
  where
    go : (b : Bool) → (let r : Comes Taken = if b then option_map (λ bytes. take_loaded t (path_for manifest function) (name_of manifest function) (function_file_in bytes)) (file_at files (path_for manifest function)) else Some (Err (stop.BadName (path_for manifest function))) in r ≡ Some (Ok next)) → IsTaken files manifest function t next
    go true same = read files manifest function t next (file_at files (path_for manifest function)) refl same
    go false same = absurd (cc)

-- the function that was taken is found by the shard that it has in a manifest
found_one : (files : Files) (manifest name bytes : List ℕ) (a : Algorithm) (before : ℕ) (file : FunctionFile) → file_at files (path_of manifest name) ≡ Some bytes → function_file_in bytes ≡ Ok file → algorithm_by file.function ≡ a
    → function_of files manifest a (shard_by name before file) ≡ Some (Ok file.function)
found_one files manifest name bytes a before file there spells is = rw (there, spells, shard_is_of a name before file is) refl

-- The functions of further arguments, and their shards, which were put after those before.
record AreFound (files new : Files) (manifest : List ℕ) (arguments : List (List ℕ)) (a : Algorithm) (t last : Taken) : Type 0 where
  more : List Shard
  functions : List Func
  shards_are : last.shards ≡ t.shards ++ more
  algorithm_is : (t.algorithm ≡ Some a) → last.algorithm ≡ Some a
  each : length functions ≡ length arguments
  long : length more ≡ length arguments
  are : AreFilesOf files manifest arguments functions
  found : functions_of new manifest a more ≡ Some (Ok functions)

-- none of these arguments is read at the path of the manifest
abbrev pub AreElsewhere : List ℕ → List (List ℕ) → Type 0
AreElsewhere manifest [] = Unit {0}
AreElsewhere manifest (a ∷ arguments) = (path_for manifest a ≢ manifest) × AreElsewhere manifest arguments

elsewhere_of : (manifest : List ℕ) (arguments : List (List ℕ)) → (ReadsManifest manifest arguments → ⊥) → AreElsewhere manifest arguments
elsewhere_of manifest [] none = tt
elsewhere_of manifest (a ∷ arguments) none = ((λ same. none (inl same)), elsewhere_of manifest arguments (λ rest. none (inr rest)))

-- so it is after a join that is done
pub not_replaced : (job : JoinJob) (old new : Outside) → Joins job old new 0 → ReplacesInput job → ⊥
not_replaced job old new joins replaces = go 0 refl (joins.refused replaces).said
  where
    go : {A B : Type 0} (status : ℕ) → status ≡ 0 → ((status ≡ 5) × A) ⊎ ((status ≡ 6) × B) → ⊥
    go status done (inl five) = absurd (omega (arith, done, five.0))
    go status done (inr six) = absurd (omega (arith, done, six.0))

pub joined_elsewhere : (job : JoinJob) (old new : Outside) → Joins job old new 0 → AreElsewhere job.manifest job.functions
joined_elsewhere job old new joins = elsewhere_of job.manifest job.functions (λ reads. not_replaced job old new joins (inl reads))

-- another file than the manifest is as before
abbrev IsKept : Files → Files → List ℕ → Type 0
IsKept files new manifest = (path : List ℕ) → path ≢ manifest → file_at new path ≡ file_at files path

found_more : (files new : Files) (manifest function : List ℕ) (functions : List (List ℕ)) (a : Algorithm) (t next last : Taken) → IsKept files new manifest → path_for manifest function ≢ manifest
    → (k : IsTaken files manifest function t next) → algorithm_by k.file.function ≡ a → AreFound files new manifest functions a next last → AreFound files new manifest (function ∷ functions) a t last
unfolding functions_of
found_more files new manifest function functions a t next last kept other k is rest =
    let name = name_of manifest function in
    let shard : Shard = shard_by name (spans t.shards) k.file in
    let one : function_of new manifest a shard ≡ Some (Ok k.file.function) = found_one new manifest name k.bytes a (spans t.shards) k.file (kept (path_for manifest function) other ∙ k.there) k.spells is in
    record {
      more = shard ∷ rest.more;
      functions = k.file.function ∷ rest.functions;
      shards_are = rest.shards_are ∙ ap (λ (n : Taken). n.shards ++ rest.more) k.is ∙ append_assoc t.shards (shard ∷ []) rest.more;
      algorithm_is = λ same. rest.algorithm_is (ap (λ (n : Taken). n.algorithm) k.is ∙ ap (λ b. Some b) is);
      each = ap suc rest.each;
      long = ap suc rest.long;
      are = (record { bytes = k.bytes; file = k.file; there = k.there; spells = k.spells; is = refl }, rest.are);
      found = rw (one, rest.found) refl;
    }

found_all : (files new : Files) (manifest : List ℕ) (arguments : List (List ℕ)) (a : Algorithm) (t last : Taken) → IsKept files new manifest → AreElsewhere manifest arguments → t.algorithm ≡ Some a
    → take_all files manifest t arguments ≡ Some (Ok last) → AreFound files new manifest arguments a t last
unfolding take_all functions_of
found_all files new manifest [] a t last kept elsewhere first is =
    let same : t ≡ last = cc in
    record {
      more = [];
      functions = [];
      shards_are = sym (ap (λ (n : Taken). n.shards) same) ∙ sym (append-nil t.shards);
      algorithm_is = λ algorithm. sym (ap (λ (n : Taken). n.algorithm) same) ∙ algorithm;
      each = refl;
      long = refl;
      are = tt;
      found = refl;
    }
found_all files new manifest (function ∷ functions) a t last kept elsewhere first is =
    let s = comes_to (take_function files manifest t function) (λ next. take_all files manifest next functions) last is in
    let k = taken files manifest function t s.first s.is in
    let built : algorithm_by k.file.function ≡ a = same_one a (algorithm_by k.file.function) (subst (λ x. fits x (algorithm_by k.file.function) ≡ true) first k.fitting) in
    let next : s.first.algorithm ≡ Some a = ap (λ (n : Taken). n.algorithm) k.is ∙ ap (λ b. Some b) built in
    found_more files new manifest function functions a t s.first last kept elsewhere.0 k built (found_all files new manifest functions a s.first last kept elsewhere.1 next s.then_is)

-- The functions of all arguments, with the algorithm that the manifest has.
found_from : (files new : Files) (manifest : List ℕ) (arguments : List (List ℕ)) (last : Taken) → IsKept files new manifest → AreElsewhere manifest arguments → take_all files manifest nothing arguments ≡ Some (Ok last)
    → AreFound files new manifest arguments (algorithm_or last.algorithm) nothing last
unfolding take_all functions_of
found_from files new manifest [] last kept elsewhere is =
    let same : nothing ≡ last = cc in
    record {
      more = [];
      functions = [];
      shards_are = sym (ap (λ (n : Taken). n.shards) same);
      algorithm_is = λ none. absurd (cc);
      each = refl;
      long = refl;
      are = tt;
      found = refl;
    }
found_from files new manifest (function ∷ functions) last kept elsewhere is =
    let s = comes_to (take_function files manifest nothing function) (λ next. take_all files manifest next functions) last is in
    let k = taken files manifest function nothing s.first s.is in
    let a = algorithm_by k.file.function in
    let rest : AreFound files new manifest functions a s.first last = found_all files new manifest functions a s.first last kept elsewhere.1 (ap (λ (n : Taken). n.algorithm) k.is) s.then_is in
    let own : algorithm_or last.algorithm ≡ a = ap algorithm_or (rest.algorithm_is (ap (λ (n : Taken). n.algorithm) k.is)) in
    subst (λ b. AreFound files new manifest (function ∷ functions) b nothing last) (sym own)
    (found_more files new manifest function functions a nothing s.first last kept elsewhere.0 k refl rest)

-- the functions of a manifest, by its shards
asked_by : (files : Files) (path : List ℕ) (m : Manifest) (a : Algorithm) (shards : List Shard) (functions : List Func) → m.algorithm ≡ a → m.seed ≡ ROUTE_SEED → m.shards ≡ shards → length shards ≡ length functions
    → functions_of files path a shards ≡ Some (Ok functions) → sharded_if m (functions_of files path m.algorithm m.shards) ≡ Some (Ok (sharded functions))
asked_by files path m a shards functions algorithm seed same long found = rw (algorithm, same, found, seed, long) refl

-- what asks the manifest of a join finds the functions that were joined
pub asked : (job : JoinJob) (files : Files) (m : Manifest) → join_of job files ≡ Some (Ok m) → manifest_in (manifest_bytes m) ≡ Ok m → AreElsewhere job.manifest job.functions → IsAsked job files m
unfolding join_of
asked job files m is spelling elsewhere =
    let s = comes_to (take_all files job.manifest nothing job.functions) (λ t. compare_counts files job.dir t.shards >>= (λ _. Some (Ok (manifest_of t)))) m is in
    let u = comes_to (compare_counts files job.dir s.first.shards) (λ _. Some (Ok (manifest_of s.first))) m s.then_is in
    let same : manifest_of s.first ≡ m = same_ok (manifest_of s.first) m u.then_is in
    let new = map.insert files job.manifest (manifest_bytes m) in
    let all = found_from files new job.manifest job.functions s.first (λ path other. get_other files job.manifest (manifest_bytes m) path other) elsewhere s.is in
    record {
      functions = all.functions;
      are = all.are;
      each = all.each;
      asked = rw (get_same files job.manifest (manifest_bytes m), spelling)
          (asked_by new job.manifest m (algorithm_or s.first.algorithm) all.more all.functions (sym (ap (λ (n : Manifest). n.algorithm) same)) (sym (ap (λ (n : Manifest). n.seed) same))
          (sym (ap (λ (n : Manifest). n.shards) same) ∙ all.shards_are) (all.long ∙ sym all.each) all.found);
    }
  where
    same_ok : (x y : Manifest) → (let r : Comes Manifest = Some (Ok x) in r ≡ Some (Ok y)) → x ≡ y
    same_ok x y e = cc
