-- What the judge says of a report: the first reason why it is false, or that it holds.
use Rattle.std.specs.Prelude.{ℕ, ◌==◌, ◌||◌, ◌&&◌, Bool, not, nat_eq, nat_lt, if◌then◌else◌, List, [], ◌∷◌, ◌++◌, count_by, filter, find, flat_map, length, map, min, Option, None, Some, option_map, option_to_list}
use Rattle.std.specs.List.{list_any, range_with_len, reduce}
use Rattle.std.specs.Option.{option_eq, option_or}
use Rattle.cm_brz_func.specs.Splitting.{keys_of_bucket, size_of_bucket}
use Rattle.cm_judge_verdict.specs.Judged.{Judged, buckets_for, core_in, edges_in, judged_by, pairs_in}
use Rattle.cm_judge_verdict.specs.declared.verdict.Reason.{Reason}
use Rattle.cm_judge_verdict.specs.declared.verdict.Reason.TheVariants.{Count, Ends, Missing, NoBucket, NoKey, NoPair, Once}
use Rattle.cm_judge_verdict.specs.declared.verdict.Settings.{Settings}
use Rattle.cm_judge_verdict.specs.declared.verdict.Verdict.{Verdict}
use Rattle.cm_judge_verdict.specs.declared.verdict.Verdict.TheVariants.{Fails, Holds}
use Rattle.cm_spec.specs.Graph.{touches}
use Rattle.cm_spec.specs.declared.limits.TheConstants.{MAX_BUCKET}
use Rattle.cm_witness_gather.specs.Pairs.{pairs}
use Rattle.cm_witness_gather.specs.declared.certificate.CoreEdge.{CoreEdge}
use Rattle.cm_witness_gather.specs.declared.certificate.InBucket.{InBucket}
use Rattle.cm_witness_gather.specs.declared.certificate.Pair.{Pair}
use Rattle.cm_witness_report.specs.Reports.{Said, core_said, overfull_said}

-- the vertices of an edge
abbrev pub ends_of : CoreEdge → List ℕ
ends_of e = e.first ∷ e.second ∷ option_to_list e.third

-- whether two edges have the same line and the same vertices
abbrev pub same_edge : CoreEdge → CoreEdge → Bool
same_edge e f = nat_eq e.line f.line && (nat_eq e.first f.first && (nat_eq e.second f.second && option_eq nat_eq e.third f.third))

-- whether two pairs have the same lines
abbrev pub same_pair : Pair → Pair → Bool
same_pair p q = nat_eq p.first q.first && nat_eq p.again q.again

-- those of some items that others lack
abbrev pub lacking : {X : Type 0} → (X → X → Bool) → List X → List X → List X
lacking same others items = filter (λ x. not (list_any (same x) others)) items

-- the lowest of some numbers
abbrev pub least : List ℕ → Option ℕ
least numbers = reduce min numbers

-- a reason that names the lowest of these numbers, if there is one
abbrev pub lowest : (ℕ → Reason) → List ℕ → Option Reason
lowest reason numbers = option_map reason (least numbers)

-- a reason if something is so
abbrev pub reason_if : Bool → Reason → Option Reason
reason_if so reason = if so then Some reason else None

-- the bucket of a 2-core is none of so many, or has too many keys for a function
abbrev pub no_bucket : Option InBucket → ℕ → ℕ → Option Reason
no_bucket None buckets size = None
no_bucket (Some p) buckets size = reason_if (not (nat_lt p.bucket buckets) || nat_lt MAX_BUCKET size) NoBucket

-- the lines of edges that none of these keys has
abbrev pub lines_unknown : List (ℕ × List ℕ) → List CoreEdge → List ℕ
lines_unknown keys edges = lacking nat_eq (map (λ k. k.0) keys) (map (λ e. e.line) edges)

-- an edge has a line that no judged key has
abbrev pub no_key : Judged → List CoreEdge → Option Reason
no_key j edges = lowest NoKey (lines_unknown j.keys edges)

-- the lines of the edges that are none of the others
abbrev pub lines_other : List CoreEdge → List CoreEdge → List ℕ
lines_other others edges = map (λ e. e.line) (lacking same_edge others edges)

-- an edge is not the one that the graph has for its line
abbrev pub other_ends : Judged → List CoreEdge → Option Reason
other_ends j edges = lowest Ends (lines_other (edges_in j) edges)

-- how many of these edges touch a vertex
abbrev pub touching : List CoreEdge → ℕ → ℕ
touching edges v = count_by (λ e. touches v (ends_of e)) edges

-- the vertices that exactly one of them touches
abbrev pub lone_vertices : List CoreEdge → List ℕ
lone_vertices edges = filter (λ v. touching edges v == 1) (flat_map ends_of edges)

-- exactly one edge touches a vertex, so that these edges are no 2-core
abbrev pub touched_once : List CoreEdge → Option Reason
touched_once edges = lowest Once (lone_vertices edges)

-- the first of the reasons that are seen without the 2-core: of these keys, all edges of their graph, and those of the report
abbrev pub edge_reason : List (ℕ × List ℕ) → List CoreEdge → List CoreEdge → Option Reason
edge_reason keys all edges = option_or (lowest NoKey (lines_unknown keys edges)) (option_or (lowest Ends (lines_other all edges)) (lowest Once (lone_vertices edges)))

-- the lines of those of some edges whose lines others don't have
abbrev pub lines_lacking : List CoreEdge → List CoreEdge → List ℕ
lines_lacking edges core = lacking nat_eq (map (λ e. e.line) edges) (map (λ e. e.line) core)

-- no edge has the line of one of the 2-core
abbrev pub missing : Judged → List CoreEdge → Option Reason
missing j edges = lowest Missing (lines_lacking edges (core_in j))

-- the bucket has not this number of keys
abbrev pub other_count : ℕ → ℕ → Option Reason
other_count size count = reason_if (not (nat_eq size count)) (Count size)

-- the later lines of the pairs that only one of two lists has
abbrev pub lines_apart : List Pair → List Pair → List ℕ
lines_apart real equal = map (λ p. p.again) (lacking same_pair real equal ++ lacking same_pair equal real)

-- a pair is in only one of two lists
abbrev pub other_pairs : List Pair → List Pair → Option Reason
other_pairs real equal = lowest NoPair (lines_apart real equal)

-- the first of the reasons that are seen by the 2-core: of its edges and pairs, and those of the report
abbrev pub core_reason : List CoreEdge → List Pair → List CoreEdge → List Pair → Option Reason
core_reason core real edges equal = option_or (lowest Missing (lines_lacking edges core)) (other_pairs real equal)

-- the lowest bucket with more keys than one may have
abbrev pub lowest_overfull : List (ℕ × List ℕ) → ℕ → ℕ → Option ℕ
lowest_overfull keys buckets split = find (λ j. nat_lt MAX_BUCKET (size_of_bucket keys buckets split j)) (range_with_len 0 buckets)

-- a bucket is not that one
abbrev pub not_lowest : Option ℕ → ℕ → Option Reason
not_lowest lowest bucket = reason_if (not (option_eq nat_eq lowest (Some bucket))) NoBucket

-- the reasons against the report of a 2-core that the keys show, in their order
abbrev pub graph_reasons : Judged → List CoreEdge → List Pair → List (Option Reason)
graph_reasons j edges equal = no_key j edges ∷ other_ends j edges ∷ touched_once edges ∷ missing j edges ∷ other_pairs (pairs_in j) equal ∷ []

-- all reasons against it, of which the first is that of its bucket
abbrev pub core_reasons : Option InBucket → ℕ → Judged → List CoreEdge → List Pair → List (Option Reason)
core_reasons place buckets j edges equal = no_bucket place buckets (length j.keys) ∷ graph_reasons j edges equal

-- the reasons against the report on an overfull bucket: of these keys, so many buckets, the seed that split them, and what it says
abbrev pub overfull_reasons : List (ℕ × List ℕ) → ℕ → ℕ → ℕ → ℕ → List Pair → List (Option Reason)
overfull_reasons keys buckets split bucket count equal =
    let own = keys_of_bucket keys buckets split bucket in
    not_lowest (lowest_overfull keys buckets split) bucket ∷ other_count (length own) count ∷ other_pairs (pairs own) equal ∷ []

-- the first of some reasons, or that a report holds
abbrev pub first_reason : List (Option Reason) → Verdict
first_reason [] = Holds
first_reason (None ∷ reasons) = first_reason reasons
first_reason (Some reason ∷ reasons) = Fails reason

-- what the judge says of a report, by the keys and the settings
abbrev pub verdict_of : Said → List (ℕ × List ℕ) → Settings → Verdict
verdict_of (core_said algorithm place seed edges equal) keys settings = first_reason (core_reasons place (buckets_for keys settings) (judged_by algorithm place seed keys settings) edges equal)
verdict_of (overfull_said split bucket count equal) keys settings = first_reason (overfull_reasons keys (buckets_for keys settings) split bucket count equal)
