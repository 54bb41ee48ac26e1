-- After lines that were read, a later one is the first bad line.
use Rattle.std.proofs.Common.{◌≡◌, ℕ, ◌<◌, ◌+◌, List, [], ◌∷◌, suc, zero, Bool, Option, None, Some, Result, Ok, Err, ap, sym, subst, arith}
use Rattle.std.specs.Prelude.{IfErr}
use Rattle.std.specs.Option.{ok_or}
use Rattle.cm_algo_names.specs.declared.algorithm.Algorithm.{Algorithm}
use Rattle.cm_spec.specs.declared.limits.TheConstants.{MAX_EDGES}
use Rattle.cm_witness_gather.specs.Gathers.{has_third}
use Rattle.cm_witness_gather.specs.declared.certificate.CoreEdge.{CoreEdge}
use Rattle.cm_witness_gather.specs.declared.certificate.InBucket.{InBucket}
use Rattle.cm_witness_gather.specs.declared.certificate.Pair.{Pair}
use Rattle.cm_witness_report.specs.Parts.{next_edge, next_pair}
use Rattle.cm_witness_report.specs.Reading.{◌>>=◌, edges_from, pairs_from, rest_from}
use Rattle.cm_witness_report.specs.declared.parts.Head.TheVariants.{Core, Overfull}
use Rattle.cm_witness_report.specs.declared.report.ReportFault.{ReportFault}
use Rattle.cm_witness_report.specs.declared.report.ReportFault.TheVariants as faults
use Rattle.cm_witness_report.proofs.LoopLemmas.{with_edges, with_pairs}

-- the first bad line, if there is one, comes after the k-th
abbrev pub IsBadAfter : {A : Type 0} → ℕ → Result A ℕ → Type 0
IsBadAfter k read = IfErr read (λ line. k < line)

after_then : {A B : Type 0} (k : ℕ) (r : Result A ℕ) (f : A → Result B ℕ) → IsBadAfter k r → ((x : A) → IsBadAfter k (f x)) → IsBadAfter k (r >>= f)
after_then k (Ok x) f first next = next x
after_then k (Err n) f first next = first

after_or : {A : Type 0} (k n : ℕ) (o : Option A) → k < n → IsBadAfter k (ok_or o n)
after_or k n None later = later
after_or k n (Some x) later = tt

edges_after : (third : Bool) (last n left : ℕ) (lines : List (List ℕ)) (k : ℕ) → k < n → IsBadAfter k (edges_from third last n left lines)
unfolding edges_from
edges_after third last n zero lines k later = tt
edges_after third last n (suc left) [] k later = later
edges_after third last n (suc left) (l ∷ lines) k later =
    after_then k _ _ (after_or k n (next_edge third last left l) later) (λ edge. after_then k _ _ (edges_after third edge.line (n + 1) left lines k (omega (arith, later))) (λ more. tt))

pairs_after : (last n room : ℕ) (lines : List (List ℕ)) (k : ℕ) → k < n → IsBadAfter k (pairs_from last n room lines)
unfolding pairs_from
pairs_after last n room [] k later = tt
pairs_after last n zero (l ∷ lines) k later = later
pairs_after last n (suc room) (l ∷ lines) k later =
    after_then k _ _ (after_or k n (next_pair last l) later) (λ pair. after_then k _ _ (pairs_after pair.again (n + 1) room lines k (omega (arith, later))) (λ more. tt))

-- with what was read before
pub with_edges_after : (third : Bool) (last n left : ℕ) (lines : List (List ℕ)) (es : List CoreEdge) (k : ℕ) → k < n → IsBadAfter k (with_edges es (edges_from third last n left lines))
with_edges_after third last n left lines es k later = after_then k _ _ (edges_after third last n left lines k later) (λ more. tt)

pub with_pairs_after : (last n room : ℕ) (lines : List (List ℕ)) (ps : List Pair) (k : ℕ) → k < n → IsBadAfter k (with_pairs ps (pairs_from last n room lines))
with_pairs_after last n room lines ps k later = after_then k _ _ (pairs_after last n room lines k later) (λ more. tt)

-- what comes after the first line
pub core_after : (algorithm : Algorithm) (place : Option InBucket) (seed count : ℕ) (lines : List (List ℕ)) → 0 < count → IsBadAfter 2 (edges_from (has_third algorithm) 0 2 count lines) → IsBadAfter 2 (rest_from (Core algorithm place seed count) lines)
unfolding rest_from
core_after algorithm place seed count lines some edges = after_then 2 _ _ edges (λ es. after_then 2 _ _ (pairs_after 0 (2 + count) MAX_EDGES es.1 2 (omega (arith, some))) (λ ps. tt))

pub overfull_after : (seed bucket count : ℕ) (lines : List (List ℕ)) → IsBadAfter 2 (pairs_from 0 2 MAX_EDGES lines) → IsBadAfter 2 (rest_from (Overfull seed bucket count) lines)
unfolding rest_from
overfull_after seed bucket count lines pairs = after_then 2 _ _ pairs (λ ps. tt)

-- none, after all edges were read
pub edges_read : (third : Bool) (count : ℕ) (lines : List (List ℕ)) (x : List CoreEdge × List (List ℕ)) → edges_from third 0 2 count lines ≡ Ok x → IsBadAfter 2 (edges_from third 0 2 count lines)
edges_read third count lines x is = subst (λ (r : Result (List CoreEdge × List (List ℕ)) ℕ). IsBadAfter 2 r) (sym is) tt

-- the fault of a part, as one of the whole
abbrev fault_in : {A : Type 0} → Result A ReportFault → ReportFault
fault_in (Ok x) = faults.Read
fault_in (Err fault) = fault

pub memory_too : (A B : Type 0) (fault : ReportFault) → (let r : Result A ReportFault = Err fault in r) ≡ Err faults.Memory → (let r : Result B ReportFault = Err fault in r) ≡ Err faults.Memory
memory_too A B fault is = ap (λ (f : ReportFault). let r : Result B ReportFault = Err f in r) (ap (fault_in {A = A}) is)
