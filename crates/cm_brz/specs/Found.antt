-- What the keys alone make of a build by BRZ, as definitions that compute.
use Rattle.std.specs.Prelude.{ℕ, ◌<◌, nat_lt, List, find, is_none, length, map, slice_index, unwrap_or, Option, Some}
use Rattle.std.specs.List.{range_with_len}
use Rattle.cm_algo_names.specs.declared.algorithm.Algorithm.TheVariants as algorithm
use Rattle.cm_brz.specs.BrzOf.{bucket_from}
use Rattle.cm_brz_func.specs.Splitting.{keys_of_bucket, size_of_bucket}
use Rattle.cm_brz_func.specs.Functions.{Brz, Bucket, bucket_count, no_bucket}
use Rattle.cm_spec.specs.declared.limits.TheConstants.{MAX_BUCKET}
use Rattle.cm_spec.specs.Bdz.{bdz_rule}
use Rattle.cm_witness_gather.specs.Cores.{edges_left, pairs_left}
use Rattle.cm_witness_gather.specs.Pairs.{pairs}
use Rattle.cm_witness_gather.specs.Reports.{overfull_text, report_text}

-- the lowest bucket, of k, that has more keys under a seed than one may have
abbrev pub first_overfull : List (ℕ × List ℕ) → ℕ → ℕ → Option ℕ
first_overfull keys k split = find (λ j. nat_lt MAX_BUCKET (size_of_bucket keys k split j)) (range_with_len 0 k)

-- the lowest bucket, of k, for which no seed of a list works
abbrev pub first_cored : List (ℕ × List ℕ) → ℕ → ℕ → ℕ → List ℕ → Option ℕ
first_cored keys k c split seeds = find (λ j. is_none (bucket_from (keys_of_bucket keys k split j) c seeds)) (range_with_len 0 k)

-- bucket j, of k, if a seed works for it
abbrev pub bucket_at : List (ℕ × List ℕ) → ℕ → ℕ → ℕ → List ℕ → ℕ → Bucket
bucket_at keys k c split seeds j = unwrap_or (bucket_from (keys_of_bucket keys k split j) c seeds) no_bucket

-- the function of keys that a seed splits, with the ratio c and b keys a bucket, if a seed of the list works for each bucket
abbrev pub brz_under : List (ℕ × List ℕ) → ℕ → ℕ → ℕ → List ℕ → Brz
brz_under keys c b split seeds =
    let k = bucket_count (length keys) b in
    record { keys = length keys; ratio = c; width = b; split = split; buckets = map (bucket_at keys k c split seeds) (range_with_len 0 k) }

-- every seed of a list leaves a bucket, of k, with more keys than one may have
abbrev pub AllOverfull : List (ℕ × List ℕ) → ℕ → List ℕ → Type 0
AllOverfull keys k seeds = (i : ℕ) → i < length seeds → (j : ℕ) × (j < k) × (MAX_BUCKET < size_of_bucket keys k (slice_index seeds i) j)

-- the report on a bucket, of k, for whose keys no seed of a list works: their 2-core under the first
unfoldable pub bucket_report : List (ℕ × List ℕ) → ℕ → ℕ → ℕ → ℕ → List ℕ → List ℕ
bucket_report keys k c split bucket seeds =
    let those = keys_of_bucket keys k split bucket in
    let seed = slice_index seeds 0 in
    report_text algorithm.Brz (Some (record { split = split; bucket = bucket })) seed (edges_left bdz_rule those c seed) (pairs_left bdz_rule those c seed)

-- the report on keys that no seed of a list splits: the lowest overfull bucket, of k, under the first
unfoldable pub overfull_report : List (ℕ × List ℕ) → ℕ → List ℕ → List ℕ
overfull_report keys k seeds =
    let seed = slice_index seeds 0 in
    let bucket = unwrap_or (first_overfull keys k seed) 0 in
    overfull_text seed bucket (size_of_bucket keys k seed bucket) (pairs (keys_of_bucket keys k seed bucket))
