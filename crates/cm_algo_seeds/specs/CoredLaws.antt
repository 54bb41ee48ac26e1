-- Lemmas about builds that fail.
use Rattle.std.proofs.Common.{◌≡◌, ◌≢◌, ◌∙◌, ℕ, ◌<◌, ◌≤◌, List, [], length, get_or, Option, None, Result, Ok, Err, IfOk, IfErr, IsErrAnd, false, inl, inr, refl, ap, sym, subst, arith}
use Rattle.std.specs.Option.{ForSome}
use Rattle.std.specs.Prelude.{OnOk}
use Rattle.cm_algo_names.specs.declared.algorithm.Algorithm.{Algorithm}
use Rattle.cm_algo_names.specs.declared.algorithm.Algorithm.TheVariants.{Chm, Bdz, BdzPh, Brz}
use Rattle.cm_io.specs.Passes.{Told}
use Rattle.cm_io.specs.declared.key_pass.KeyFault.{KeyFault}
use Rattle.cm_io.specs.declared.key_pass.KeyFault.TheVariants.{Read, TooLong, TooMany}
use Rattle.cm_io.specs.declared.key_pass.KeyPass.{Ghosts}
use Rattle.cm_algo_scheme.specs.Kinds.{HasEnds}
use Rattle.cm_spec.specs.Built.{graph_of}
use Rattle.cm_spec.specs.Rounds.{rest_of}
use Rattle.cm_spec.specs.Rule.{Rule}
use Rattle.cm_witness_gather.specs.Cores.{core_edges, keys_at}
use Rattle.cm_io.specs.PassFaults.{FailsPass, HasOtherCount, HasPassCause, HasPassFailure, HasPassed}
use Rattle.cm_witness_gather.specs.Gathers.{IsGathered, ends_of, has_buckets}
use Rattle.cm_witness_gather.specs.Pairs.{pairs}
use Rattle.cm_witness_gather.specs.declared.certificate.Certificate.{Certificate}
use Rattle.cm_io.specs.declared.pass_fault.PassFault.{PassFault}
use Rattle.cm_io.specs.declared.pass_fault.PassFault.TheVariants as pass_fault
use Rattle.cm_algo_seeds.specs.Fails.{FailsBuild, FoundEqual, HasBuildCause, HasBuildFailure, HasCounted, HasForm, HasNumbers, IsFailure, ShowsCore, build_fault_of}
use Rattle.cm_algo_seeds.specs.declared.fault.BuildFault.{BuildFault}
use Rattle.cm_algo_seeds.specs.declared.fault.BuildFault.TheVariants.{Cored}
use Rattle.cm_algo_seeds.specs.OneSeedLaws.{all_cored, none_chosen}

-- what was gathered of a graph and of what peeling leaves is the 2-core of the keys with this graph
pub shows : (told : Option Told) (r : Rule) (seed : ℕ) (edges : List (List ℕ)) (rest : List ℕ) (result : Result Certificate PassFault)
    → rest ≡ rest_of edges
    → IfOk result (λ made. ForSome told (λ told. IsGathered told edges rest made))
    → IfOk result (λ made. ForSome told (λ told. (c : ℕ) → edges ≡ graph_of r told.keys c seed → ShowsCore r told.keys c seed made))
shows told r seed edges rest (Err fault) is gathered = tt
shows told r seed edges rest (Ok made) is gathered = λ known told_is c are.
    let of = gathered known told_is in
    record {
      edges = of.edges_are
          ∙ ap (λ (places : List ℕ). core_edges known.keys edges places) is
          ∙ ap (λ (graph : List (List ℕ)). core_edges known.keys graph (rest_of graph)) are;
      equal = of.equal_are
          ∙ ap (λ (places : List ℕ). pairs (keys_at known.keys places)) is
          ∙ ap (λ (graph : List (List ℕ)). pairs (keys_at known.keys (rest_of graph))) are;
    }

-- there is one key an edge
pub ended : (told : Option Told) (edges : List (List ℕ)) (rest : List ℕ) (result : Result Certificate PassFault)
    → IfOk result (λ made. ForSome told (λ told. IsGathered told edges rest made))
    → OnOk result (ForSome told (λ told. (length told.keys ≡ length edges) × (told.fault ≡ None)))
ended told edges rest (Err fault) gathered = tt
ended told edges rest (Ok made) gathered = λ known is. ((gathered known is).many, (gathered known is).ended)

-- every seed leaves an edge
pub refused : (r : Rule) (told : Told) (c : ℕ) (seeds : List ℕ) (made : Certificate)
    → 0 < length told.keys
    → told.fault ≡ None
    → ((j : ℕ) → j < length seeds → rest_of (graph_of r told.keys c (get_or seeds j 0)) ≢ [])
    → ShowsCore r told.keys c (get_or seeds 0 0) made
    → FailsBuild r told c seeds (Cored made)
refused r told c seeds made some ended left shown = (some, ended, none_chosen r told.keys c seeds left, all_cored r told.keys c seeds left, shown)

-- a seed leaves what was peeled of its graph
pub leaves_some : (r : Rule) (keys : List (ℕ × List ℕ)) (c seed : ℕ) (edges : List (List ℕ)) (rest : List ℕ) → edges ≡ graph_of r keys c seed → rest ≡ rest_of edges → rest ≢ [] → rest_of (graph_of r keys c seed) ≢ []
leaves_some r keys c seed edges rest are is some nil = some (is ∙ ap rest_of are ∙ nil)

-- the algorithms that a scheme can be have the ends of its edges, and no buckets
pub ends_met : (k : ℕ) (algorithm : Algorithm) → HasEnds k algorithm → (k ≡ ends_of algorithm) × (false ≡ has_buckets algorithm)
ends_met k Chm ends = (ends, refl)
ends_met k Bdz ends = (ends, refl)
ends_met k BdzPh ends = (ends, refl)
ends_met k Brz ends = absurd ends

-- a pass failed
pub fails_pass : (r : Rule) (told : Told) (c : ℕ) (seeds : List ℕ) (m : ℕ) (fault : PassFault) → m ≡ length told.keys → FailsPass told m fault → FailsBuild r told c seeds (build_fault_of fault)
fails_pass r told c seeds m pass_fault.Memory many fails = tt
fails_pass r told c seeds m (pass_fault.Key Read) many fails = tt
fails_pass r told c seeds m (pass_fault.Key (TooLong line)) many fails = fails.1
fails_pass r told c seeds m (pass_fault.Key TooMany) many fails = fails.1
fails_pass r told c seeds m (pass_fault.Changed first now) many (inl more) = absurd (omega (arith, many, more.0))
fails_pass r told c seeds m (pass_fault.Changed first now) many (inr fewer) = absurd (omega (arith, many, fewer.0))

-- what holds of a fault holds of what a call returns as this fault
pub handed_on : {T E : Type 0} (result : Result T E) (fault : E) (F : E → Type 0) → IsErrAnd result (λ e. e ≡ fault) → F fault → IfErr result F
handed_on (Ok x) fault F is holds = absurd is
handed_on (Err e) fault F is holds = subst F (sym is) holds

-- a pass that failed has no certificate: its numbers are those of the pass, and it found no equal keys
numbers_of : (m place : ℕ) (fault : PassFault) → 1 ≤ m → HasOtherCount m place fault → HasNumbers place (build_fault_of fault)
numbers_of m place pass_fault.Memory some other = tt
numbers_of m place (pass_fault.Key fault) some other = tt
numbers_of m place (pass_fault.Changed first now) some other = (omega (arith, other.0), other.1)

-- a pass that failed hands on its fault
pass_failure : (failure : Option KeyFault) (fault : PassFault) → HasPassFailure failure fault → HasBuildFailure failure (build_fault_of fault)
pass_failure failure pass_fault.Memory has = tt
pass_failure failure (pass_fault.Key fault) has = has
pass_failure failure (pass_fault.Changed first now) has = tt

-- and what was counted before it
counted_of : {P : Type 0} (at_end : P → Type 0) (place : P → ℕ) (keys : P) (m now : ℕ) (fault : PassFault) → HasPassed at_end place m → HasOtherCount m now fault → HasCounted at_end place keys (build_fault_of fault)
counted_of at_end place keys m now pass_fault.Memory passed other = tt
counted_of at_end place keys m now (pass_fault.Key fault) passed other = tt
counted_of at_end place keys m now (pass_fault.Changed first found) passed other = subst (λ (n : ℕ). HasPassed at_end place n) (sym other.0) passed

no_form : (algorithm : Algorithm) (seed : ℕ) (fault : PassFault) → HasForm algorithm seed (build_fault_of fault)
no_form algorithm seed pass_fault.Memory = tt
no_form algorithm seed (pass_fault.Key fault) = tt
no_form algorithm seed (pass_fault.Changed first now) = tt

-- so a pass that failed says what a failed build does, of keys that were counted before
pub pass_fails : {P : Type 0} (K : Ghosts P) (keys : P) (m : ℕ) (algorithm : Algorithm) (seed : ℕ) (fault : PassFault) → 1 ≤ m → HasPassed K.at_end K.place m → HasPassFailure (K.failure keys) fault → HasOtherCount m (K.place keys) fault → IsFailure K keys algorithm seed (build_fault_of fault)
pass_fails K keys m algorithm seed fault some passed failed other = record {
  failed = pass_failure (K.failure keys) fault failed;
  numbers = numbers_of m (K.place keys) fault some other;
  counted = counted_of K.at_end K.place keys m (K.place keys) fault passed other;
  certificate = no_form algorithm seed fault;
}

pub none_found : (fault : PassFault) → FoundEqual (build_fault_of fault) → ⊥
none_found pass_fault.Memory found = found
none_found (pass_fault.Key fault) found = found
none_found (pass_fault.Changed first now) found = found

-- and its cause is that of the pass
cause_of : (U : Type 0) (before now : ℕ) (fault : PassFault) → HasPassCause {T = Unit {0}} before now (Err fault) → HasBuildCause {T = U} before now (Err (build_fault_of fault))
cause_of U before now pass_fault.Memory cause = cause
cause_of U before now (pass_fault.Key fault) cause = cause
cause_of U before now (pass_fault.Changed first again) cause = cause

pub cause_on : (U : Type 0) (before now : ℕ) (result : Result U BuildFault) (fault : PassFault) → IsErrAnd result (λ e. e ≡ build_fault_of fault) → HasPassCause {T = Unit {0}} before now (Err fault) → HasBuildCause {T = U} before now result
cause_on U before now (Ok x) fault is cause = absurd is
cause_on U before now (Err e) fault is cause = subst (λ (e : BuildFault). HasBuildCause {T = U} before now (Err e)) (sym is) (cause_of U before now fault cause)
