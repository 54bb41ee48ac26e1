-- Where a function by BRZ looks up the number of a key.
use Rattle.std.specs.Prelude.{ℕ, ◌++◌, List, [], ◌∷◌, length, slice_index_or, ◌==◌, if◌then◌else◌}
use Rattle.cm_brz_func.specs.Functions.{Brz, Bucket, bucket_of, no_bucket}
use Rattle.cm_spec.specs.Bdz.{bdz_edge}
use Rattle.cm_spec.specs.Lookup2.{words}

-- the three vertices of a key in a bucket, which are 0 in an empty one
abbrev pub ends_in : Bucket → List ℕ → List ℕ
ends_in bucket key = if bucket.size == 0 then 0 ∷ 0 ∷ 0 ∷ [] else bdz_edge (words key bucket.seed) (length bucket.cells)

-- the vertices in the key's bucket, and the bucket
abbrev pub brz_place : Brz → List ℕ → List ℕ
brz_place f key =
    let j = bucket_of key f.split (length f.buckets) in
    ends_in (slice_index_or f.buckets j no_bucket) key ++ j ∷ []
