-- The numbers of all keys, by the functions of the files of the shards.
use Rattle.std.proofs.Common.{◌≡◌, ◌∙◌, ℕ, ◌<◌, ◌==◌, Bool, true, false, cond, List, [], ◌∷◌, All, length, get_or, map, Option, None, ap, refl, sym, subst, arith}
use Rattle.std.proofs.lemmas.List.{get_or-map, length-map}
use Rattle.cm_bdz.specs.Numbering.{AnswersApart}
use Rattle.cm_func.specs.Functions.{IsFunction, answer_by, span_by}
use Rattle.cm_func.specs.declared.function.Func.{Func}
use Rattle.cm_route.specs.Routes.{Route, shard_of}
use Rattle.cm_route.specs.declared.route.TheConstants.{ROUTE_SEED}
use Rattle.cm_shards.proofs.SharesLemmas.{shares_read}
use Rattle.cm_shards.specs.Joined.{sharded}
use Rattle.cm_shards.specs.Numbered.{AreBuiltOver, IsBuiltOver, LeaveNone, shard_keys}
use Rattle.cm_shards_files.specs.Shards.{IsSharded, function_at}
use Rattle.cm_shards_files.specs.ShardsLaws.{AreApartByShard, HaveNoGaps, keys_of_shard}
use Rattle.cm_shards_split.specs.Outcomes.{route_of, told_of}
use Rattle.cm_shards_split.specs.Shares.{share}
use Rattle.cm_shards_words.specs.Limits.{IsSplitJob}
use Rattle.cm_shards_words.specs.declared.jobs.SplitJob.{SplitJob}
use Rattle.cm_spec.specs.Built.{key_at}

-- the bytes of numbered keys
abbrev bytes_of : List (ℕ × List ℕ) → List (List ℕ)
bytes_of keys = map (λ key. key.1) keys

-- keys of the same bytes have the same answers, whatever their numbers
key_at_is : (keys : List (ℕ × List ℕ)) (i : ℕ) → i < length keys → key_at keys i ≡ get_or (bytes_of keys) i []
key_at_is keys i inside = sym (get_or-map (λ key. key.1) keys i (0, []) [] inside)

as_many : (keys others : List (ℕ × List ℕ)) → bytes_of keys ≡ bytes_of others → length keys ≡ length others
as_many keys others same = sym (length-map keys (λ key. key.1)) ∙ ap length same ∙ length-map others (λ key. key.1)

apart_along : (keys others : List (ℕ × List ℕ)) (answer : List ℕ → Option ℕ) (bound : ℕ) → bytes_of keys ≡ bytes_of others → AnswersApart keys answer bound → AnswersApart others answer bound
apart_along keys others answer bound same apart =
    let many : length keys ≡ length others = as_many keys others same in
    let at : (i : ℕ) → i < length others → key_at others i ≡ key_at keys i = λ i inside. key_at_is others i inside ∙ ap (λ (ls : List (List ℕ)). get_or ls i []) (sym same) ∙ sym (key_at_is keys i (omega (arith, inside, many))) in
    record {
      below = λ i inside. let b = apart.below i (omega (arith, inside, many)) in (b.0, ap answer (at i inside) ∙ b.1, b.2);
      apart = λ i j inside inside_j e. apart.apart i j (omega (arith, inside, many)) (omega (arith, inside_j, many)) (sym (ap answer (at i inside)) ∙ e ∙ ap answer (at j inside_j));
    }

-- the keys of a shard, without their numbers, are its share
shares_of : (r : Route) (k : ℕ) (keys : List (ℕ × List ℕ)) → bytes_of (keys_of_shard keys r k) ≡ share r k (bytes_of keys)
shares_of r k [] = refl
shares_of r k (key ∷ keys) = go (shard_of r key.1 == k) (shares_of r k keys)
  where
    go : (t : Bool) → bytes_of (keys_of_shard keys r k) ≡ share r k (bytes_of keys) → bytes_of (cond t (key ∷ keys_of_shard keys r k) (keys_of_shard keys r k)) ≡ cond t (key.1 ∷ share r k (bytes_of keys)) (share r k (bytes_of keys))
    go true rest = ap (λ ls. key.1 ∷ ls) rest
    go false rest = rest

-- they are the keys that a build reads in the file of the shard
keys_same : (job : SplitJob) (bytes : List ℕ) (k : ℕ) → (shard_keys job bytes k).fault ≡ None → bytes_of (shard_keys job bytes k).keys ≡ bytes_of (keys_of_shard (told_of job bytes).keys (route_of job) k)
keys_same job bytes k sound = shares_read job bytes k sound ∙ sym (shares_of (route_of job) k (told_of job bytes).keys)

pub are_sharded : (job : SplitJob) (functions : List Func) → IsSplitJob job → All IsFunction functions → length functions ≡ job.shards → IsSharded (sharded functions)
are_sharded job functions is valid each = record { some = omega (arith, is.shards.0, each); few = omega (arith, is.shards.1, each); each = refl; valid = valid }

pub are_apart : (job : SplitJob) (bytes : List ℕ) (functions : List Func) → AreBuiltOver job bytes functions → AreApartByShard (told_of job bytes).keys (sharded functions)
are_apart job bytes functions built = λ k below.
    let one : IsBuiltOver job bytes k (function_at functions k) = built.built k (omega (arith, below, built.each)) in
    let keys = (told_of job bytes).keys in
    subst (λ (n : ℕ). AnswersApart (keys_of_shard keys (record { seed = ROUTE_SEED; shards = n }) k) (answer_by (function_at functions k)) (span_by (function_at functions k))) (sym built.each)
    (apart_along (shard_keys job bytes k).keys (keys_of_shard keys (route_of job) k) (answer_by (function_at functions k)) (span_by (function_at functions k)) (keys_same job bytes k one.sound) one.apart)

pub have_no_gaps : (job : SplitJob) (bytes : List ℕ) (functions : List Func) → AreBuiltOver job bytes functions → LeaveNone job bytes functions → HaveNoGaps (told_of job bytes).keys (sharded functions)
have_no_gaps job bytes functions built none = λ k below.
    let inside : k < job.shards = omega (arith, below, built.each) in
    let keys = (told_of job bytes).keys in
    subst (λ (n : ℕ). span_by (function_at functions k) ≡ length (keys_of_shard keys (record { seed = ROUTE_SEED; shards = n }) k)) (sym built.each)
    (none k inside ∙ as_many (shard_keys job bytes k).keys (keys_of_shard keys (route_of job) k) (keys_same job bytes k (built.built k inside).sound))
