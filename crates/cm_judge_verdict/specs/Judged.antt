-- What a report is judged by: keys, and the graph that it speaks of.
use Rattle.std.specs.Prelude.{ℕ, List, filter, length, map, nat_eq, Option, None, Some, unwrap_or}
use Rattle.std.specs.List.{list_any}
use Rattle.cm_algo_names.specs.declared.algorithm.Algorithm.{Algorithm}
use Rattle.cm_algo_names.specs.declared.algorithm.Algorithm.TheVariants.{Chm, Bdz, BdzPh, Brz}
use Rattle.cm_brz_func.specs.Functions.{bucket_count}
use Rattle.cm_brz_func.specs.Splitting.{keys_of_bucket}
use Rattle.cm_judge_verdict.specs.declared.verdict.Settings.{Settings}
use Rattle.cm_spec.specs.Bdz.{bdz_ph_rule, bdz_rule}
use Rattle.cm_spec.specs.Built.{edge_of, graph_of}
use Rattle.cm_spec.specs.Chm.{chm_rule}
use Rattle.cm_spec.specs.Graph.{places}
use Rattle.cm_spec.specs.Rule.{Rule}
use Rattle.cm_witness_gather.specs.Cores.{core_edge, core_edges, edges_left, pairs_left}
use Rattle.cm_witness_gather.specs.declared.certificate.CoreEdge.{CoreEdge}
use Rattle.cm_witness_gather.specs.declared.certificate.InBucket.{InBucket}
use Rattle.cm_witness_gather.specs.declared.certificate.Pair.{Pair}
use Rattle.cm_words_values.specs.Options.{usual_ratio}

-- the keys of which a graph is made, the rule by which it is made, the ratio in millionths and the seed
pub record Judged : Type 0 where
  pub rule : Rule
  pub keys : List (ℕ × List ℕ)
  pub ratio : ℕ
  pub seed : ℕ

-- the rule of an algorithm; the buckets of BRZ have functions by BDZ
abbrev pub rule_of : Algorithm → Rule
rule_of Chm = chm_rule
rule_of Bdz = bdz_rule
rule_of BdzPh = bdz_ph_rule
rule_of Brz = bdz_rule

-- how many buckets BRZ splits these keys into
abbrev pub buckets_for : List (ℕ × List ℕ) → Settings → ℕ
buckets_for keys settings = bucket_count (length keys) settings.b

-- the keys of a bucket, or all if there are no buckets
abbrev pub keys_in_place : Option InBucket → List (ℕ × List ℕ) → Settings → List (ℕ × List ℕ)
keys_in_place None keys settings = keys
keys_in_place (Some p) keys settings = keys_of_bucket keys (buckets_for keys settings) p.split p.bucket

-- what the report of a 2-core speaks of; without a ratio in the settings, it is the usual one of the algorithm
abbrev pub judged_by : Algorithm → Option InBucket → ℕ → List (ℕ × List ℕ) → Settings → Judged
judged_by algorithm place seed keys settings = record { rule = rule_of algorithm; keys = keys_in_place place keys settings; ratio = unwrap_or settings.c (usual_ratio algorithm); seed = seed }

-- the graph
abbrev pub graph_in : Judged → List (List ℕ)
graph_in j = graph_of j.rule j.keys j.ratio j.seed

-- its edges, with the lines of their keys
abbrev pub edges_in : Judged → List CoreEdge
edges_in j = core_edges j.keys (graph_in j) (places (graph_in j))

-- those of its 2-core, as peeling finds it
abbrev pub core_in : Judged → List CoreEdge
core_in j = edges_left j.rule j.keys j.ratio j.seed

-- the pairs of equal keys among theirs
abbrev pub pairs_in : Judged → List Pair
pairs_in j = pairs_left j.rule j.keys j.ratio j.seed

-- the edge of a key over n vertices, with its line
abbrev pub edge_over : Rule → ℕ → ℕ → ℕ × List ℕ → CoreEdge
edge_over r n seed key = core_edge key (edge_of r n seed key)

-- those of all edges that have the line of one of these
abbrev pub with_lines_of : List CoreEdge → List CoreEdge → List CoreEdge
with_lines_of edges all = filter (λ e. list_any (nat_eq e.line) (map (λ x. x.line) edges)) all
