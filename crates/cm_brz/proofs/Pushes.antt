-- The functions of buckets.
use Rattle.std.proofs.Common.{◌≡◌, ◌≢◌, ◌∙◌, ◌⊎◌, ◌++◌, inl, inr, get_or, length-append, ℕ, ◌+◌, ◌*◌, ◌<◌, ◌≤◌, true, List, [], ◌∷◌, length, refl, sym, ap, subst, arith, Option, Some, All, is_some}
use Rattle.std.specs.Prelude.{option_map, slice_index}
use Rattle.std.proofs.Math.Nat.{mul-le-mul_left}
use Rattle.std.proofs.Math.Seq.{get_or-append_seam}
use Rattle.std.proofs.lemmas.Bool.{cases_lt}
use Rattle.std.proofs.lemmas.List.{get_or_append_left}
use Rattle.std.proofs.lemmas.List.Sums.{sum_by-cons}
use Rattle.cm_algo_names.specs.declared.algorithm.Algorithm.TheVariants as algorithm
use Rattle.cm_brz.specs.BrzOf.{AreBuilt, PushesBucket, bucket_from, bucket_under}
use Rattle.cm_brz.specs.Fails.{FailsBucket}
use Rattle.cm_brz_split.specs.declared.fault.BrzFault.TheVariants as brz_fault
use Rattle.cm_brz_func.specs.Functions.{Brz, Bucket, keys_in, no_bucket}
use Rattle.cm_brz_func.specs.Pushing.{with_bucket}
use Rattle.cm_io.specs.Passes.{Told}
use Rattle.cm_algo_seeds.specs.Builds.{IsBuilt}
use Rattle.cm_algo_seeds.specs.Fails.{FailsBuild, HasForm}
use Rattle.cm_algo_seeds.specs.declared.fault.BuildFault.TheVariants as build_fault
use Rattle.cm_spec.specs.Bdz.{bdz_rule}
use Rattle.cm_spec.specs.Built.{IsFirst, cells_under}
use Rattle.cm_witness_gather.specs.declared.certificate.Certificate.{Certificate}
use Rattle.cm_witness_gather.specs.declared.certificate.CoreEdge.{CoreEdge}
use Rattle.cm_witness_gather.specs.declared.certificate.InBucket.{InBucket}

pub bucket_made : (keys : List (ℕ × List ℕ)) (c : ℕ) (seeds : List ℕ) (m seed : ℕ) (cells : List ℕ) (k before after : ℕ) → 0 < length keys → IsBuilt bdz_rule keys c seeds m seed cells k before after → bucket_from keys c seeds ≡ Some (record { size = m; seed = seed; cells = cells })
bucket_made [] c seeds m seed cells k before after some h = absurd (omega arith)
bucket_made (x ∷ xs) c seeds m seed cells k before after some h =
    let keys : List (ℕ × List ℕ) = x ∷ xs in
    let is : bucket_under keys c seed ≡ (record { size = m; seed = seed; cells = cells }) = ap (λ (n : ℕ). let b : Bucket = record { size = n; seed = seed; cells = cells_under bdz_rule keys c seed } in b) (sym h.many) ∙ ap (λ (cs : List ℕ). let b : Bucket = record { size = m; seed = seed; cells = cs } in b) (sym h.cells_are) in
    ap (option_map (bucket_under keys c)) h.chosen ∙ ap (λ (b : Bucket). let o : Option Bucket = Some b in o) is

pub cored_in : (told : Told) (c : ℕ) (seeds : List ℕ) (place : InBucket) (old made : Certificate) → made.algorithm ≡ algorithm.Brz → made.seed ≡ old.seed → made.place ≡ Some place → made.edges.items ≡ old.edges.items → made.equal.items ≡ old.equal.items → HasForm algorithm.Bdz (slice_index seeds 0) (build_fault.Cored old) → FailsBuild bdz_rule told c seeds (build_fault.Cored old) → FailsBucket told.keys c seeds place (brz_fault.Cored made)
cored_in told c seeds place old made named seed shown edges equal form fails = (
  (named, seed ∙ form.1, ap is_some shown, subst (λ (es : List CoreEdge). All (λ e. is_some e.third ≡ true) es) (sym edges) form.3),
  record {
    shown = shown;
    none = fails.2;
    cored = fails.3;
    shows = record { edges = edges ∙ fails.4.edges; equal = equal ∙ fails.4.equal };
  },
)

-- an empty bucket is pushed, and one of keys
pub no_keys : {A : Type 0} (xs : List A) → length xs ≡ 0 → xs ≡ []
no_keys [] h = refl
no_keys (x ∷ xs) h = absurd (omega arith)

pub pushes_none : (f after : Brz) (keys : List (ℕ × List ℕ)) (c : ℕ) (seeds cells : List ℕ) → length keys ≡ 0 → cells ≡ [] → after ≡ with_bucket f (record { size = 0; seed = 0; cells = cells }) → PushesBucket f after keys c seeds
pushes_none f after keys c seeds cells none idle e =
    let empty : keys ≡ [] = no_keys keys none in
    record {
      bucket = no_bucket;
      pushed = e ∙ ap (λ (cs : List ℕ). with_bucket f (record { size = 0; seed = 0; cells = cs })) idle;
      size = sym none;
      built = ap (λ (ks : List (ℕ × List ℕ)). bucket_from ks c seeds) empty;
      first = λ some. absurd (some empty);
    }

pub pushes_built : (f after : Brz) (keys : List (ℕ × List ℕ)) (c : ℕ) (seeds : List ℕ) (m seed : ℕ) (cells : List ℕ) → m ≡ length keys → bucket_from keys c seeds ≡ Some (record { size = m; seed = seed; cells = cells }) → ((t : ℕ) × IsFirst bdz_rule keys c seeds t seed) → after ≡ with_bucket f (record { size = m; seed = seed; cells = cells }) → PushesBucket f after keys c seeds
pushes_built f after keys c seeds m seed cells many built first e = record {
  bucket = record { size = m; seed = seed; cells = cells };
  pushed = e;
  size = many;
  built = built;
  first = λ _. first;
}

-- a function with one bucket more is the same except for its buckets
pub same_but_buckets : (first f after : Brz) (keys : List (ℕ × List ℕ)) (c : ℕ) (seeds : List ℕ) → f ≡ record first { buckets = f.buckets } → PushesBucket f after keys c seeds → after ≡ record first { buckets = after.buckets }
same_but_buckets first f after keys c seeds e h =
    let more : f.buckets ++ h.bucket ∷ [] ≡ after.buckets = sym (ap (λ (x : Brz). x.buckets) h.pushed) in
    h.pushed ∙ (ap (λ (x : Brz). with_bucket x h.bucket) e ∙ ap (λ (bs : List Bucket). let x : Brz = record first { buckets = bs } in x) more)

pub one_bucket_more : (f after : Brz) (keys : List (ℕ × List ℕ)) (c : ℕ) (seeds : List ℕ) → PushesBucket f after keys c seeds → length after.buckets ≡ length f.buckets + 1
one_bucket_more f after keys c seeds h = omega (arith, ap (λ (x : Brz). length x.buckets) h.pushed, length-append f.buckets (h.bucket ∷ []))

keys_in-push : (xs : List Bucket) (b : Bucket) → keys_in (xs ++ b ∷ []) ≡ keys_in xs + b.size
keys_in-push [] b = omega (arith, sum_by-cons (λ (x : Bucket). x.size) b [])
keys_in-push (x ∷ xs) b = omega (arith, sum_by-cons (λ (y : Bucket). y.size) x (xs ++ b ∷ []), sum_by-cons (λ (y : Bucket). y.size) x xs, keys_in-push xs b)

pub more_keys_in : (f after : Brz) (keys : List (ℕ × List ℕ)) (c : ℕ) (seeds : List ℕ) → PushesBucket f after keys c seeds → keys_in after.buckets ≡ keys_in f.buckets + length keys
more_keys_in f after keys c seeds h = omega (arith, ap (λ (x : Brz). keys_in x.buckets) h.pushed, keys_in-push f.buckets h.bucket, h.size)

pub steps_more : (s0 s t n p q len : ℕ) → s ≤ s0 + 24 * p * len → t ≤ s + 24 * n * len → p + n ≤ q → t ≤ s0 + 24 * q * len
steps_more s0 s t n p q len a b h = omega (arith, mul-le-mul_left (24 * len) h)

-- the buckets so far, and the next one
abbrev pub IsRight : ℕ → List ℕ → Bucket → List (ℕ × List ℕ) → Type 0
IsRight c seeds b ks = (bucket_from ks c seeds ≡ Some b) × (ks ≢ [] → (place : ℕ) × IsFirst bdz_rule ks c seeds place b.seed)

right_more : (keys_of : ℕ → List (ℕ × List ℕ)) (c : ℕ) (seeds : List ℕ) (xs : List Bucket) (b : Bucket) → AreBuilt keys_of c seeds xs → IsRight c seeds b (keys_of (length xs)) → (i : ℕ) → i < length xs + 1 → IsRight c seeds (get_or (xs ++ b ∷ []) i no_bucket) (keys_of i)
right_more keys_of c seeds xs b before next i l = go (cases_lt i (length xs)) where
  go : (i < length xs) ⊎ (length xs ≤ i) → IsRight c seeds (get_or (xs ++ b ∷ []) i no_bucket) (keys_of i)
  go (inl low) =
      let same : get_or xs i no_bucket ≡ get_or (xs ++ b ∷ []) i no_bucket = sym (get_or_append_left xs (b ∷ []) no_bucket i low) in
      subst (λ (x : Bucket). IsRight c seeds x (keys_of i)) same (before.each i low, before.first i low)
  go (inr high) =
      let here : length xs ≡ i = omega arith in
      let same : b ≡ get_or (xs ++ b ∷ []) i no_bucket = sym (ap (λ (n : ℕ). get_or (xs ++ b ∷ []) n no_bucket) (sym here) ∙ get_or-append_seam xs b [] no_bucket) in
      subst (λ (x : Bucket). IsRight c seeds x (keys_of i)) same (subst (λ (n : ℕ). IsRight c seeds b (keys_of n)) here next)

pub built_more : (keys_of : ℕ → List (ℕ × List ℕ)) (c : ℕ) (seeds : List ℕ) (f after : Brz) (keys : List (ℕ × List ℕ)) (j : ℕ) → AreBuilt keys_of c seeds f.buckets → length f.buckets ≡ j → PushesBucket f after keys c seeds → keys ≡ keys_of j → AreBuilt keys_of c seeds after.buckets
built_more keys_of c seeds f after keys j before long h is =
    let more : f.buckets ++ h.bucket ∷ [] ≡ after.buckets = sym (ap (λ (x : Brz). x.buckets) h.pushed) in
    let there : keys ≡ keys_of (length f.buckets) = is ∙ ap keys_of (sym long) in
    let next : IsRight c seeds h.bucket (keys_of (length f.buckets)) = subst (IsRight c seeds h.bucket) there (h.built, h.first) in
    let all : (i : ℕ) → i < length after.buckets → IsRight c seeds (get_or after.buckets i no_bucket) (keys_of i) = λ i l. subst (λ (xs : List Bucket). IsRight c seeds (get_or xs i no_bucket) (keys_of i)) more (right_more keys_of c seeds f.buckets h.bucket before next i (omega (arith, one_bucket_more f after keys c seeds h))) in
    record {
      each = λ i l. (all i l).0;
      first = λ i l. (all i l).1;
    }
