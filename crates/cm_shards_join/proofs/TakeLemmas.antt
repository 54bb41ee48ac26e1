-- Functions that are taken one after another.
use Rattle.std.proofs.Common.{◌≡◌, ◌∙◌, ℕ, List, [], ◌∷◌, ◌++◌, length, ap, sym, subst, refl, arith, lit<, ◌+◌, ◌<◌, ◌≤◌, take, drop, get_or, inl, inr, None, Some, Ok, Err}
use Rattle.std.proofs.lemmas.List as lists
use Rattle.std.proofs.lemmas.List.{drop_more, take-append-drop, take_more}
use Rattle.cm_algo_names.specs.declared.algorithm.Algorithm.{Algorithm}
use Rattle.cm_io.specs.Files.{Files}
use Rattle.cm_shards_join.specs.Leaves.{EndsStop, NamesCounts, NamesFunction, NamesPath, Refuses}
use Rattle.cm_shards_join.specs.Taking.{◌>>=◌, Comes, Taken, compare_counts, join_of, manifest_of, nothing, take_all, take_function}
use Rattle.cm_shards_join.specs.declared.stop.JoinStop.{JoinStop}
use Rattle.cm_shards_join.specs.declared.stop.JoinStop.TheVariants.{Another, BadCounts, BadDump, BadName, Memory, Read, Write}
use Rattle.cm_route.specs.declared.route.TheConstants.{ROUTE_SEED}
use Rattle.cm_shards_manifest.specs.Manifests.{AreShards, IsManifest}
use Rattle.cm_shards_manifest.specs.declared.shard.Shard.{Shard}
use Rattle.cm_shards_manifest.specs.Paths.{name_of, path_of}
use Rattle.cm_shards_words.specs.Limits.{IsJoinJob}
use Rattle.cm_shards_words.specs.declared.jobs.JoinJob.{JoinJob}

none_ok : {A : Type 0} (x : A) → (let r : Comes A = None in r) ≡ Some (Ok x) → ⊥
none_ok x e = absurd (cc)

err_ok : {A : Type 0} (s : JoinStop) (x : A) → (let r : Comes A = Some (Err s) in r) ≡ Some (Ok x) → ⊥
err_ok s x e = absurd (cc)

ok_same : {A : Type 0} {x y : A} → (let r : Comes A = Some (Ok x) in r) ≡ Some (Ok y) → x ≡ y
ok_same e = cc

-- a step that comes to something, and then others
then_ok : {A B C : Type 0} (r : Comes A) (f : A → Comes B) (g : A → Comes C) (y : B) (out : Comes C) → ((x : A) → f x ≡ Some (Ok y) → g x ≡ out) → (r >>= f) ≡ Some (Ok y) → (r >>= g) ≡ out
then_ok None f g y out next is = absurd (none_ok y is)
then_ok (Some (Err s)) f g y out next is = absurd (err_ok s y is)
then_ok (Some (Ok x)) f g y out next is = next x is

-- the functions after those that were taken
pub take_then : (files : Files) (manifest : List ℕ) (t u : Taken) (done rest : List (List ℕ)) → take_all files manifest t done ≡ Some (Ok u) → take_all files manifest t (done ++ rest) ≡ take_all files manifest u rest
unfolding take_all
take_then files manifest t u [] rest is = ap (λ (v : Taken). take_all files manifest v rest) (ok_same is)
take_then files manifest t u (f ∷ done) rest is = then_ok (take_function files manifest t f) (λ (v : Taken). take_all files manifest v done) (λ (v : Taken). take_all files manifest v (done ++ rest)) u (take_all files manifest u rest) (λ v next. take_then files manifest v u done rest next) is

-- one function more
pub take_one : (files : Files) (manifest f : List ℕ) (t u v : Taken) (done : List (List ℕ)) → take_all files manifest t done ≡ Some (Ok u) → take_function files manifest u f ≡ Some (Ok v) → take_all files manifest t (done ++ f ∷ []) ≡ Some (Ok v)
unfolding take_all
take_one files manifest f t u v done was is = take_then files manifest t u done (f ∷ []) was ∙ rw is refl

-- why a step stopped is why all did
pub refuses_then : {A B : Type 0} (stop : JoinStop) (r : Comes A) (f : A → Comes B) → Refuses r stop → Refuses (r >>= f) stop
refuses_then Memory r f is = tt
refuses_then (Read path) r f is = tt
refuses_then Write r f is = absurd is
refuses_then (BadName path) r f is = rw is refl
refuses_then (BadDump path fault) r f is = rw is refl
refuses_then (Another path) r f is = rw is refl
refuses_then (BadCounts path line) r f is = rw is refl

-- the next function is refused
pub take_refuses : (files : Files) (manifest f : List ℕ) (t u : Taken) (done rest : List (List ℕ)) (stop : JoinStop) → take_all files manifest t done ≡ Some (Ok u) → Refuses (take_function files manifest u f) stop → Refuses (take_all files manifest t (done ++ f ∷ rest)) stop
unfolding take_all
take_refuses files manifest f t u done rest stop was is =
    subst (λ (r : Comes Taken). Refuses r stop) (sym (take_then files manifest t u done (f ∷ rest) was)) (refuses_then stop (take_function files manifest u f) (λ (v : Taken). take_all files manifest v rest) is)

-- and the path of one that could not be read is named
pub take_named : (job : JoinJob) (files : Files) (f : List ℕ) (u : Taken) (done rest : List (List ℕ)) (stop : JoinStop) → job.functions ≡ done ++ f ∷ rest → take_all files job.manifest nothing done ≡ Some (Ok u) → NamesPath (path_of job.manifest (name_of job.manifest f)) stop → NamesFunction job files stop
take_named job files f u done rest Memory are was is = tt
take_named job files f u done rest (Read path) are was is = record { before = done; function = f; after = rest; taken = u; are = are; takes = was; is = is }
take_named job files f u done rest Write are was is = tt
take_named job files f u done rest (BadName path) are was is = tt
take_named job files f u done rest (BadDump path fault) are was is = tt
take_named job files f u done rest (Another path) are was is = tt
take_named job files f u done rest (BadCounts path line) are was is = tt

-- ---- a whole join

-- the functions were not taken
pub ends_take : (job : JoinJob) (files : Files) (stop : JoinStop) → Refuses (take_all files job.manifest nothing job.functions) stop → NamesFunction job files stop → EndsStop job files stop
unfolding join_of
ends_take job files Memory is named = tt
ends_take job files (Read path) is named = inl named
ends_take job files Write is named = absurd is
ends_take job files (BadName path) is named = rw is refl
ends_take job files (BadDump path fault) is named = rw is refl
ends_take job files (Another path) is named = rw is refl
ends_take job files (BadCounts path line) is named = rw is refl

-- the counts are others
pub ends_compare : (job : JoinJob) (files : Files) (t : Taken) (stop : JoinStop) → take_all files job.manifest nothing job.functions ≡ Some (Ok t) → Refuses (compare_counts files job.dir t.shards) stop → NamesCounts job.dir stop → EndsStop job files stop
unfolding join_of
ends_compare job files t Memory was is named = tt
ends_compare job files t (Read path) was is named = inr (record { dir = named.0; taken = t; given = named.1; takes = was; is = named.2 })
ends_compare job files t Write was is named = absurd is
ends_compare job files t (BadName path) was is named = rw (was, is) refl
ends_compare job files t (BadDump path fault) was is named = rw (was, is) refl
ends_compare job files t (Another path) was is named = rw (was, is) refl
ends_compare job files t (BadCounts path line) was is named = rw (was, is) refl

-- there is a manifest
pub ends_joined : (job : JoinJob) (files : Files) (t : Taken) → take_all files job.manifest nothing job.functions ≡ Some (Ok t) → compare_counts files job.dir t.shards ≡ Some (Ok tt) → join_of job files ≡ Some (Ok (manifest_of t))
unfolding join_of
ends_joined job files t was same = rw (was, same) refl

pub is_manifest : (job : JoinJob) (a : Algorithm) (shards : List Shard) → IsJoinJob job → length shards ≡ length job.functions → AreShards 0 shards → IsManifest (record { algorithm = a; seed = ROUTE_SEED; shards = shards })
is_manifest job a shards is count are = record { seed = lit< tt; count = (omega (arith, count, is.functions.0), omega (arith, count, is.functions.1)); shards = are }

-- ---- the arguments

pub next_args : (functions : List (List ℕ)) (k : ℕ) (f : List ℕ) → k < length functions → f ≡ get_or functions k f → take (k + 1) functions ≡ take k functions ++ f ∷ []
next_args functions k f inside is = take_more functions k f inside ∙ ap (λ (g : List ℕ). take k functions ++ g ∷ []) (sym is)

pub split_args : (functions : List (List ℕ)) (k : ℕ) (f : List ℕ) → k < length functions → f ≡ get_or functions k f → functions ≡ take k functions ++ f ∷ drop (k + 1) functions
split_args functions k f inside is = sym (take-append-drop k functions) ∙ ap (λ (l : List (List ℕ)). take k functions ++ l) (drop_more functions k f inside ∙ ap (λ (g : List ℕ). g ∷ drop (k + 1) functions) (sym is))

-- all arguments
pub all_args : (functions : List (List ℕ)) (k : ℕ) → length functions ≤ k → take k functions ≡ functions
all_args functions k ended = lists.take_all k functions ended

-- none is taken yet
pub take_start : (files : Files) (manifest : List ℕ) (shards : List Shard) → shards ≡ [] → take_all files manifest nothing [] ≡ Some (Ok (record { algorithm = None; shards = shards }))
unfolding take_all
take_start files manifest shards is = rw is refl
