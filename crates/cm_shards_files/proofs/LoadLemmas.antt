-- The functions of shards, loaded one after another.
use Rattle.std.proofs.Common.{◌≡◌, ◌∙◌, ℕ, suc, ◌+◌, ◌<◌, List, [], ◌∷◌, ◌++◌, length, take, drop, get_or, Option, None, Some, Result, Ok, Err, refl, ap, sym}
use Rattle.std.proofs.lemmas.List.{take-append-drop, take_more}
use Rattle.std.proofs.Math.Seq.{drop-cons}
use Rattle.cm_algo_names.specs.declared.algorithm.Algorithm.{Algorithm}
use Rattle.cm_func.specs.declared.function.Func.{Func}
use Rattle.cm_io.specs.Files.{Files}
use Rattle.cm_shards_files.specs.Loading.{and_then, function_of, functions_of}
use Rattle.cm_shards_files.specs.Steps.{LoadsFunction, LoadsFunctions}
use Rattle.cm_shards_files.specs.declared.fault.ShardsFault.{ShardsFault}
use Rattle.cm_shards_files.specs.declared.fault.ShardsFault.TheVariants.{Memory, NoManifest, BadManifest, NoFunction, BadFunction, Another}
use Rattle.cm_shards_manifest.specs.declared.shard.Shard.{Shard}

-- a first function and those after it
record Parts (o : Option (Result Func ShardsFault)) (r : Option (Result (List Func) ShardsFault)) (functions : List Func) : Type 0 where
  first : Func
  rest : List Func
  first_is : o ≡ Some (Ok first)
  rest_is : r ≡ Some (Ok rest)
  whole : functions ≡ first ∷ rest

parts : (o : Option (Result Func ShardsFault)) (r : Option (Result (List Func) ShardsFault)) (functions : List Func) → and_then o r ≡ Some (Ok functions) → Parts o r functions
parts None r functions is = absurd (cc is)
parts (Some (Err fault)) r functions is = absurd (cc is)
parts (Some (Ok f)) None functions is = absurd (cc is)
parts (Some (Ok f)) (Some (Err fault)) functions is = absurd (cc is)
parts (Some (Ok f)) (Some (Ok fs)) functions is = record { first = f; rest = fs; first_is = refl; rest_is = refl; whole = cc is }

-- a further function
pub one_more : (files : Files) (manifest : List ℕ) (a : Algorithm) (before : List Shard) (s : Shard) (functions : List Func) (f : Func) → functions_of files manifest a before ≡ Some (Ok functions) → function_of files manifest a s ≡ Some (Ok f)
    → functions_of files manifest a (before ++ s ∷ []) ≡ Some (Ok (functions ++ f ∷ []))
unfolding functions_of
one_more files manifest a [] s functions f sound is =
    let none : functions ≡ [] = cc sound in
    ap (λ (o : Option (Result Func ShardsFault)). and_then o (Some (Ok []))) is ∙ ap (λ (fs : List Func). let r : Result (List Func) ShardsFault = Ok (fs ++ f ∷ []) in Some r) (sym none)
one_more files manifest a (b ∷ before) s functions f sound is =
    let p = parts (function_of files manifest a b) (functions_of files manifest a before) functions sound in
    let later = one_more files manifest a before s p.rest f p.rest_is is in
    ap (λ (o : Option (Result Func ShardsFault)). and_then o (functions_of files manifest a (before ++ s ∷ []))) p.first_is
    ∙ ap (λ (r : Option (Result (List Func) ShardsFault)). and_then (Some (Ok p.first)) r) later
    ∙ ap (λ (fs : List Func). let r : Result (List Func) ShardsFault = Ok (fs ++ f ∷ []) in Some r) (sym p.whole)

-- a function file at fault decides
pub stops : (files : Files) (manifest : List ℕ) (a : Algorithm) (before : List Shard) (s : Shard) (after : List Shard) (functions : List Func) (fault : ShardsFault) → functions_of files manifest a before ≡ Some (Ok functions) → function_of files manifest a s ≡ Some (Err fault)
    → functions_of files manifest a (before ++ s ∷ after) ≡ Some (Err fault)
unfolding functions_of
stops files manifest a [] s after functions fault sound is = ap (λ (o : Option (Result Func ShardsFault)). and_then o (functions_of files manifest a after)) is
stops files manifest a (b ∷ before) s after functions fault sound is =
    let p = parts (function_of files manifest a b) (functions_of files manifest a before) functions sound in
    let later = stops files manifest a before s after p.rest fault p.rest_is is in
    ap (λ (o : Option (Result Func ShardsFault)). and_then o (functions_of files manifest a (before ++ s ∷ after))) p.first_is
    ∙ ap (λ (r : Option (Result (List Func) ShardsFault)). and_then (Some (Ok p.first)) r) later

-- the first i shards were loaded, and then one more
pub loads_more : (files : Files) (manifest : List ℕ) (a : Algorithm) (shards : List Shard) (i : ℕ) (s : Shard) (functions : List Func) (f : Func) → i < length shards → s ≡ get_or shards i s → functions_of files manifest a (take i shards) ≡ Some (Ok functions)
    → function_of files manifest a s ≡ Some (Ok f) → functions_of files manifest a (take (i + 1) shards) ≡ Some (Ok (functions ++ f ∷ []))
loads_more files manifest a shards i s functions f inside at sound is =
    ap (functions_of files manifest a) (take_more shards i s inside) ∙ one_more files manifest a (take i shards) (get_or shards i s) functions f sound (ap (function_of files manifest a) (sym at) ∙ is)

-- the shards about one of them
about : (shards : List Shard) (i : ℕ) (s : Shard) → i < length shards → s ≡ get_or shards i s → shards ≡ take i shards ++ s ∷ drop (suc i) shards
about shards i s inside at =
    sym (take-append-drop i shards) ∙ ap (λ (l : List Shard). take i shards ++ l) (drop-cons shards i s inside) ∙ ap (λ (t : Shard). take i shards ++ t ∷ drop (suc i) shards) (sym at)

-- the first i shards were loaded, and the next one was not
pub loads_until : {X : Type 0} (view : X → List Func) (files : Files) (manifest : List ℕ) (a : Algorithm) (shards : List Shard) (i : ℕ) (s : Shard) (functions : List Func) (fault : ShardsFault) → i < length shards → s ≡ get_or shards i s
    → functions_of files manifest a (take i shards) ≡ Some (Ok functions) → LoadsFunction files manifest a s (Err fault) → LoadsFunctions view files manifest a shards (Err fault)
loads_until view files manifest a shards i s functions Memory inside at sound loads = tt
loads_until view files manifest a shards i s functions NoManifest inside at sound loads = loads
loads_until view files manifest a shards i s functions (BadManifest fault) inside at sound loads = loads
loads_until view files manifest a shards i s functions (NoFunction path) inside at sound loads =
    record { shard = s; before = take i shards; after = drop (suc i) shards; functions = functions; shards_are = about shards i s inside at; sound = sound; path_is = loads }
loads_until view files manifest a shards i s functions (BadFunction path fault) inside at sound loads =
    ap (functions_of files manifest a) (about shards i s inside at) ∙ stops files manifest a (take i shards) s (drop (suc i) shards) functions (BadFunction path fault) sound loads
loads_until view files manifest a shards i s functions (Another path) inside at sound loads =
    ap (functions_of files manifest a) (about shards i s inside at) ∙ stops files manifest a (take i shards) s (drop (suc i) shards) functions (Another path) sound loads
