-- What a certificate is gathered of.
use Rattle.std.specs.Prelude.{◌≡◌, ℕ, List, length, All, is_some, Bool, true, false, Option, None}
use Rattle.cm_algo_names.specs.declared.algorithm.Algorithm.{Algorithm}
use Rattle.cm_algo_names.specs.declared.algorithm.Algorithm.TheVariants.{Chm, Bdz, BdzPh, Brz}
use Rattle.cm_io.specs.Passes.{Told}
use Rattle.cm_witness_gather.specs.Cores.{core_edges, keys_at}
use Rattle.cm_witness_gather.specs.Pairs.{pairs}
use Rattle.cm_witness_gather.specs.declared.certificate.Certificate.{Certificate}
use Rattle.cm_witness_gather.specs.declared.certificate.InBucket.{InBucket}

-- how many ends the edges of an algorithm have
abbrev pub ends_of : Algorithm → ℕ
ends_of Chm = 2
ends_of Bdz = 3
ends_of BdzPh = 3
ends_of Brz = 3

-- whether they have a third
abbrev pub has_third : Algorithm → Bool
has_third Chm = false
has_third Bdz = true
has_third BdzPh = true
has_third Brz = true

-- whether an algorithm splits its keys into buckets
abbrev pub has_buckets : Algorithm → Bool
has_buckets Chm = false
has_buckets Bdz = false
has_buckets BdzPh = false
has_buckets Brz = true

-- a certificate names the algorithm, the seed and the bucket that it was asked for, and has one edge for each place of a residual graph
pub record IsOf (algorithm : Algorithm) (seed : ℕ) (place : Option InBucket) (rest : List ℕ) (made : Certificate) : Type 0 where
  pub algorithm_is : made.algorithm ≡ algorithm
  pub seed_is : made.seed ≡ seed
  pub place_is : made.place ≡ place
  pub count : length made.edges.items ≡ length rest
  pub third : All (λ e. is_some e.third ≡ has_third algorithm) made.edges.items

-- there is one known key an edge, and a certificate has the edges at the places of a residual graph, with the lines of their keys, and
-- which of these keys are equal
pub record IsGathered (told : Told) (edges : List (List ℕ)) (rest : List ℕ) (made : Certificate) : Type 0 where
  pub many : length told.keys ≡ length edges
  pub ended : told.fault ≡ None
  pub edges_are : made.edges.items ≡ core_edges told.keys edges rest
  pub equal_are : made.equal.items ≡ pairs (keys_at told.keys rest)
