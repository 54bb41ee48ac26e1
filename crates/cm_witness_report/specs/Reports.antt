-- What a report says, and which texts are reports.
use Rattle.std.specs.Prelude.{◌≡◌, ◌<◌, ◌≤◌, ◌++◌, ◌^◌, ℕ, List, [], ◌∷◌, Bool, true, Option, IfSome, is_some, length}
use Rattle.std.specs.List.{AllByRecursion}
use Rattle.cm_algo_names.specs.declared.algorithm.Algorithm.{Algorithm}
use Rattle.cm_io.specs.Writing.{joined}
use Rattle.cm_spec.specs.declared.limits.TheConstants.{MAX_EDGES}
use Rattle.cm_witness_gather.specs.Gathers.{has_buckets, has_third}
use Rattle.cm_witness_gather.specs.Reports.{head_line, overfull_head, overfull_text, report_text}
use Rattle.cm_witness_gather.specs.declared.certificate.CoreEdge.{CoreEdge}
use Rattle.cm_witness_gather.specs.declared.certificate.InBucket.{InBucket}
use Rattle.cm_witness_gather.specs.declared.certificate.Pair.{Pair}
use Rattle.cm_witness_report.specs.Lines.{is_line}
use Rattle.cm_witness_report.specs.declared.parts.Head.{Head}
use Rattle.cm_witness_report.specs.declared.parts.Head.TheVariants.{Core, Overfull}

-- what a report says: the edges of a 2-core, or an overfull bucket; and equal keys
pub data Said : Type 0 where
  core_said : Algorithm → Option InBucket → ℕ → List CoreEdge → List Pair → Said
  overfull_said : ℕ → ℕ → ℕ → List Pair → Said

-- its text
abbrev pub text_of : Said → List ℕ
text_of (core_said algorithm place seed edges equal) = report_text algorithm place seed edges equal
text_of (overfull_said seed bucket count equal) = overfull_text seed bucket count equal

-- a number has at most 32 bits
abbrev pub IsSmall : ℕ → Type 0
IsSmall n = n < 2 ^ 32

-- an edge with as many ends as the algorithm's have, and small numbers
pub record IsEdge (third : Bool) (e : CoreEdge) : Type 0 where
  pub line : IsSmall e.line
  pub first : IsSmall e.first
  pub second : IsSmall e.second
  pub ends : is_some e.third ≡ third
  pub last : IfSome e.third IsSmall

-- such edges, with lines that rise from above `last`
abbrev pub AreEdges : Bool → ℕ → List CoreEdge → Type 0
AreEdges third last [] = Unit {0}
AreEdges third last (e ∷ es) = (last < e.line) × IsEdge third e × AreEdges third e.line es

-- an edge that may come after one of the line `last`
pub record ComesNext (third : Bool) (last : ℕ) (e : CoreEdge) : Type 0 where
  pub rises : last < e.line
  pub edge : IsEdge third e

-- two lines from 1 on, the first before the other
pub record IsPair (p : Pair) : Type 0 where
  pub some : 0 < p.first
  pub order : p.first < p.again
  pub small : IsSmall p.again

-- a pair that may come after one with the later line `last`
pub record IsPairAfter (last : ℕ) (p : Pair) : Type 0 where
  pub rises : last < p.again
  pub pair : IsPair p

-- such pairs, with later lines that rise from above `last`
abbrev pub ArePairs : ℕ → List Pair → Type 0
ArePairs last [] = Unit {0}
ArePairs last (p ∷ ps) = (last < p.again) × IsPair p × ArePairs p.again ps

-- the bucket of a report has small numbers
abbrev pub IsPlace : InBucket → Type 0
IsPlace p = IsSmall p.split × IsSmall p.bucket

-- what the first line of a report says: there is a bucket if the algorithm has buckets, and there are edges
abbrev pub IsHead : Head → Type 0
IsHead (Core algorithm place seed count) = (is_some place ≡ has_buckets algorithm) × IfSome place IsPlace × IsSmall seed × (0 < count) × (count ≤ MAX_EDGES)
IsHead (Overfull seed bucket count) = IsSmall seed × IsSmall bucket × IsSmall count

-- the first line
abbrev pub head_text : Head → List ℕ
head_text (Core algorithm place seed count) = head_line algorithm place seed count
head_text (Overfull seed bucket count) = overfull_head seed bucket count

-- what the report of a 2-core says: there is a bucket if the algorithm has buckets, and there are edges
pub record IsCoreReport (algorithm : Algorithm) (place : Option InBucket) (seed : ℕ) (edges : List CoreEdge) (equal : List Pair) : Type 0 where
  pub place_is : is_some place ≡ has_buckets algorithm
  pub place_small : IfSome place IsPlace
  pub seed_small : IsSmall seed
  pub some : 0 < length edges
  pub few : length edges ≤ MAX_EDGES
  pub edges_are : AreEdges (has_third algorithm) 0 edges
  pub few_pairs : length equal ≤ MAX_EDGES
  pub pairs_are : ArePairs 0 equal

-- what the report on an overfull bucket says
pub record IsOverfullReport (seed bucket count : ℕ) (equal : List Pair) : Type 0 where
  pub seed_small : IsSmall seed
  pub bucket_small : IsSmall bucket
  pub count_small : IsSmall count
  pub few_pairs : length equal ≤ MAX_EDGES
  pub pairs_are : ArePairs 0 equal

-- what a report says
abbrev pub IsReport : Said → Type 0
IsReport (core_said algorithm place seed edges equal) = IsCoreReport algorithm place seed edges equal
IsReport (overfull_said seed bucket count equal) = IsOverfullReport seed bucket count equal

-- some bytes are the text of a report that says this
pub record IsTextOf (bytes : List ℕ) (said : Said) : Type 0 where
  pub valid : IsReport said
  pub text : bytes ≡ text_of said

-- a text of a report begins with these bytes
abbrev pub BeginsReport : List ℕ → Type 0
BeginsReport bytes = (said : Said) × (more : List ℕ) × IsTextOf (bytes ++ more) said

-- some bytes begin with these whole lines
pub record BeginsWith (bytes : List ℕ) (lines : List (List ℕ)) : Type 0 where
  pub whole : AllByRecursion (λ l. is_line l ≡ true) lines
  pub more : List ℕ
  pub are : bytes ≡ joined lines ++ more
