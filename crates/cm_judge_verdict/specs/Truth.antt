-- When a report is true.
use Rattle.std.specs.Prelude.{◌≡◌, ◌<◌, ◌≤◌, ℕ, List, length, map, IfSome}
use Rattle.std.specs.List.Sorted.{IsStrictlyIncreasing}
use Rattle.cm_brz_func.specs.Splitting.{IsLowestOver, keys_of_bucket}
use Rattle.cm_judge_verdict.specs.Judged.{Judged, buckets_for, graph_in, judged_by}
use Rattle.cm_judge_verdict.specs.declared.verdict.Settings.{Settings}
use Rattle.cm_spec.specs.Core.{IsCore}
use Rattle.cm_spec.specs.declared.limits.TheConstants.{MAX_BUCKET}
use Rattle.cm_witness_gather.specs.Cores.{core_edges, keys_at}
use Rattle.cm_witness_gather.specs.Pairs.{pairs}
use Rattle.cm_witness_gather.specs.declared.certificate.CoreEdge.{CoreEdge}
use Rattle.cm_witness_gather.specs.declared.certificate.InBucket.{InBucket}
use Rattle.cm_witness_gather.specs.declared.certificate.Pair.{Pair}
use Rattle.cm_witness_report.specs.Reports.{Said, core_said, overfull_said}

-- the lines of keys rise
abbrev pub HaveRisingLines : List (ℕ × List ℕ) → Type 0
HaveRisingLines keys = IsStrictlyIncreasing (map (λ k. k.0) keys)

-- the bucket is one of so many, and has no more keys than one may have
abbrev pub IsBucketIn : ℕ → ℕ → InBucket → Type 0
IsBucketIn buckets size p = (p.bucket < buckets) × (size ≤ MAX_BUCKET)

-- The graph has a 2-core that is not empty, the edges are all of it by rising line, and the pairs are those of the equal keys among theirs.
pub record IsTrueCore (j : Judged) (edges : List CoreEdge) (equal : List Pair) : Type 0 where
  pub core : List ℕ
  pub is_core : IsCore (graph_in j) core
  pub some : 0 < length core
  pub edges_are : edges ≡ core_edges j.keys (graph_in j) core
  pub equal_are : equal ≡ pairs (keys_at j.keys core)

-- Under the seed that split the keys, the bucket is the lowest with more keys than one may have, it has this number of them, and the
-- pairs are those of all its equal keys.
pub record IsTrueOverfull (keys : List (ℕ × List ℕ)) (buckets split bucket count : ℕ) (equal : List Pair) : Type 0 where
  pub lowest : IsLowestOver keys buckets split bucket count
  pub equal_are : equal ≡ pairs (keys_of_bucket keys buckets split bucket)

-- A report is true for these keys and settings, and the seed and the bucket that it names.
abbrev pub IsTrue : Said → List (ℕ × List ℕ) → Settings → Type 0
IsTrue (core_said algorithm place seed edges equal) keys settings =
    let j = judged_by algorithm place seed keys settings in
    IfSome place (IsBucketIn (buckets_for keys settings) (length j.keys)) × IsTrueCore j edges equal
IsTrue (overfull_said split bucket count equal) keys settings = IsTrueOverfull keys (buckets_for keys settings) split bucket count equal
