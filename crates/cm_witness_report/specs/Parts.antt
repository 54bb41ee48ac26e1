-- What each line of a report says.
use Rattle.std.specs.Prelude.{◌&&◌, ◌++◌, ◌+◌, ◌^◌, ℕ, nat_lt, nat_le, List, Bool, true, false, Option, None, Some, codes, if◌then◌else◌}
use Rattle.std.specs.Option.{option_or}
use Rattle.cm_algo_names.specs.Names.{name_of}
use Rattle.cm_algo_names.specs.declared.algorithm.Algorithm.{Algorithm}
use Rattle.cm_algo_names.specs.declared.algorithm.Algorithm.TheVariants.{Chm, Bdz, BdzPh, Brz}
use Rattle.cm_spec.specs.declared.limits.TheConstants.{MAX_EDGES}
use Rattle.cm_witness_gather.specs.declared.certificate.CoreEdge.{CoreEdge}
use Rattle.cm_witness_gather.specs.declared.certificate.Pair.{Pair}
use Rattle.cm_witness_report.specs.Fields.{◌>>=◌, ends, field_at}
use Rattle.cm_witness_report.specs.declared.parts.Head.{Head}
use Rattle.cm_witness_report.specs.declared.parts.Head.TheVariants.{Core, Overfull}

-- a number of edges, from 1 to the most edges of a graph
abbrev pub is_count : ℕ → Bool
is_count n = nat_lt 0 n && nat_le n MAX_EDGES

-- the first line of a report of an algorithm that has no buckets
unfoldable pub plain_head_at : Algorithm → List ℕ → Option Head
plain_head_at algorithm text = do
  seed ← field_at (codes "core " ++ (name_of algorithm ++ codes " seed ")) text
  count ← field_at (codes " edges ") seed.1
  if ends count.1 && is_count count.0 then Some (Core algorithm None seed.0 count.0) else None

-- the first line of a report on a bucket
unfoldable pub bucket_head_at : List ℕ → Option Head
bucket_head_at text = do
  split ← field_at (codes "core brz split ") text
  bucket ← field_at (codes " bucket ") split.1
  seed ← field_at (codes " seed ") bucket.1
  count ← field_at (codes " edges ") seed.1
  if ends count.1 && is_count count.0 then Some (Core Brz (Some (record { split = split.0; bucket = bucket.0 })) seed.0 count.0) else None

-- the first line of a report on an overfull bucket
unfoldable pub overfull_head_at : List ℕ → Option Head
overfull_head_at text = do
  seed ← field_at (codes "overfull brz seed ") text
  bucket ← field_at (codes " bucket ") seed.1
  count ← field_at (codes " keys ") bucket.1
  if ends count.1 then Some (Overfull seed.0 bucket.0 count.0) else None

-- the first line of a report
abbrev pub head_at : List ℕ → Option Head
head_at text = option_or (plain_head_at Chm text) (option_or (plain_head_at Bdz text) (option_or (plain_head_at BdzPh text) (option_or (bucket_head_at text) (overfull_head_at text))))

-- the third end of an edge, if it has one, and what follows it
unfoldable pub third_at : Bool → List ℕ → Option (Option ℕ × List ℕ)
third_at false text = Some (None, text)
third_at true text = do
  end ← field_at (codes " ") text
  Some (Some end.0, end.1)

-- the line of an edge
unfoldable pub edge_at : Bool → List ℕ → Option CoreEdge
edge_at third text = do
  line ← field_at (codes "edge ") text
  first ← field_at (codes " ") line.1
  second ← field_at (codes " ") first.1
  last ← third_at third second.1
  if ends last.1 then Some (record { line = line.0; first = first.0; second = second.0; third = last.0 }) else None

-- the line of two equal keys, of which the first comes before the other
unfoldable pub pair_at : List ℕ → Option Pair
pair_at text = do
  first ← field_at (codes "equal ") text
  again ← field_at (codes " ") first.1
  if ends again.1 && (nat_lt 0 first.0 && nat_lt first.0 again.0) then Some (record { first = first.0; again = again.0 }) else None

-- the next edge, after one of the line `last`; its line leaves room for the lines of the edges that are left after it
unfoldable pub next_edge : Bool → ℕ → ℕ → List ℕ → Option CoreEdge
next_edge third last left text = do
  edge ← edge_at third text
  if nat_lt last edge.line && nat_lt (edge.line + left) (2 ^ 32) then Some edge else None

-- the next pair, after one with the later line `last`
unfoldable pub next_pair : ℕ → List ℕ → Option Pair
next_pair last text = do
  pair ← pair_at text
  if nat_lt last pair.again then Some pair else None
