-- The text of a certificate, and that of a report on an overfull bucket.
use Rattle.std.specs.Prelude.{ℕ, List, [], ◌∷◌, ◌++◌, length, map, Option, None, Some, codes, decimal}
use Rattle.cm_algo_names.specs.Names.{name_of}
use Rattle.cm_algo_names.specs.declared.algorithm.Algorithm.{Algorithm}
use Rattle.cm_io.specs.Writing.{joined}
use Rattle.cm_spec.specs.Rule.{Rule}
use Rattle.cm_witness_gather.specs.Cores.{edges_left, pairs_left}
use Rattle.cm_witness_gather.specs.declared.certificate.CoreEdge.{CoreEdge}
use Rattle.cm_witness_gather.specs.declared.certificate.InBucket.{InBucket}
use Rattle.cm_witness_gather.specs.declared.certificate.Pair.{Pair}

-- the bucket, if the keys were split into buckets
abbrev pub place_part : Option InBucket → List ℕ
place_part None = []
place_part (Some p) = joined (codes " split " ∷ decimal p.split ∷ codes " bucket " ∷ decimal p.bucket ∷ [])

-- the first line: the algorithm, the bucket, the seed and the number of edges
abbrev pub head_line : Algorithm → Option InBucket → ℕ → ℕ → List ℕ
head_line algorithm place seed edges = joined (codes "core " ∷ name_of algorithm ∷ place_part place ∷ codes " seed " ∷ decimal seed ∷ codes " edges " ∷ decimal edges ∷ codes "\n" ∷ [])

-- the third end, if there is one
abbrev pub third_part : Option ℕ → List ℕ
third_part None = []
third_part (Some v) = codes " " ++ decimal v

-- the line of an edge: the line of its key, and its ends
abbrev pub edge_line : CoreEdge → List ℕ
edge_line e = joined (codes "edge " ∷ decimal e.line ∷ codes " " ∷ decimal e.first ∷ codes " " ∷ decimal e.second ∷ third_part e.third ∷ codes "\n" ∷ [])

-- the line of two equal keys: the lines of both
abbrev pub pair_line : Pair → List ℕ
pair_line p = joined (codes "equal " ∷ decimal p.first ∷ codes " " ∷ decimal p.again ∷ codes "\n" ∷ [])

-- the whole text: the first line, those of the edges and those of the pairs
abbrev pub report_text : Algorithm → Option InBucket → ℕ → List CoreEdge → List Pair → List ℕ
report_text algorithm place seed edges equal = head_line algorithm place seed (length edges) ++ (joined (map edge_line edges) ++ joined (map pair_line equal))

-- the report of the residual graph of keys under a seed
abbrev pub core_report : Algorithm → Rule → List (ℕ × List ℕ) → ℕ → ℕ → List ℕ
core_report algorithm r keys c seed = report_text algorithm None seed (edges_left r keys c seed) (pairs_left r keys c seed)

-- the first line of a report on an overfull bucket: the seed of the split, the bucket and its number of keys
abbrev pub overfull_head : ℕ → ℕ → ℕ → List ℕ
overfull_head seed bucket count = joined (codes "overfull brz seed " ∷ decimal seed ∷ codes " bucket " ∷ decimal bucket ∷ codes " keys " ∷ decimal count ∷ codes "\n" ∷ [])

-- the whole text: the first line, and those of the equal keys
abbrev pub overfull_text : ℕ → ℕ → ℕ → List Pair → List ℕ
overfull_text seed bucket count equal = overfull_head seed bucket count ++ joined (map pair_line equal)
