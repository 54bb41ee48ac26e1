-- How verdicts on counted keys are those on a report.
use Rattle.std.proofs.Common.{◌≡◌, ◌∙◌, ℕ, List, length, refl, sym, ap, arith, false, Bool, Option, None, Some, Result, Ok, Err, IfOk, IfErr}
use Rattle.std.specs.Option.{ForSome}
use Rattle.std.specs.Prelude.{is_some, unwrap_or}
use Rattle.cm_algo_names.specs.declared.algorithm.Algorithm.{Algorithm}
use Rattle.cm_algo_names.specs.declared.algorithm.Algorithm.TheVariants.{Brz}
use Rattle.cm_brz_func.specs.Functions.{bucket_count}
use Rattle.cm_brz_func.specs.Splitting.{keys_of_bucket}
use Rattle.cm_brz_split.specs.Passes.{AreCounted, FailsAgain}
use Rattle.cm_io.specs.PassFaults.{FailsPass}
use Rattle.cm_io.specs.Passes.{Told}
use Rattle.cm_io.specs.declared.pass_fault.PassFault.{PassFault}
use Rattle.cm_judge_reports.proofs.FaultLemmas.{fails_again}
use Rattle.cm_judge_verdict.specs.Judged.{judged_by, rule_of}
use Rattle.cm_judge_verdict.specs.MemberLaws.{RisesBy-weaker}
use Rattle.cm_judge_verdict.specs.ReportLaws.{shown_edges_rise, shown_pairs_rise}
use Rattle.cm_judge_verdict.specs.Rising.{RisesBy}
use Rattle.cm_judge_verdict.specs.Verdicts.{core_reasons, first_reason, graph_reasons, overfull_reasons, verdict_of}
use Rattle.cm_judge_verdict.specs.declared.verdict.Settings.{Settings}
use Rattle.cm_judge_verdict.specs.declared.verdict.Verdict.{Verdict}
use Rattle.cm_spec.specs.Bdz.{bdz_rule}
use Rattle.cm_spec.specs.Rule.{Rule}
use Rattle.cm_witness_gather.specs.Gathers.{has_buckets}
use Rattle.cm_witness_gather.specs.declared.certificate.CoreEdge.{CoreEdge}
use Rattle.cm_witness_gather.specs.declared.certificate.InBucket.{InBucket}
use Rattle.cm_witness_gather.specs.declared.certificate.Pair.{Pair}
use Rattle.cm_witness_report.specs.Reports.{AreEdges, ArePairs, core_said, overfull_said}
use Rattle.cm_words_values.specs.Options.{usual_ratio}

-- the lines of a report rise
pub edges_up : (third : Bool) (es : List CoreEdge) → AreEdges third 0 es → RisesBy (λ e. e.line) 0 es
edges_up third es h = RisesBy-weaker (λ (e : CoreEdge). e.line) 1 0 es (omega arith) (shown_edges_rise third 0 es h)

pub pairs_up : (ps : List Pair) → ArePairs 0 ps → RisesBy (λ p. p.again) 0 ps
pairs_up ps h = RisesBy-weaker (λ (p : Pair). p.again) 1 0 ps (omega arith) (shown_pairs_rise 0 ps h)

-- what the verdict on the 2-core of all keys is over
no_place : (algorithm : Algorithm) (place : Option InBucket) (seed : ℕ) (edges : List CoreEdge) (equal : List Pair) (keys : List (ℕ × List ℕ)) (settings : Settings) → is_some place ≡ false
    → first_reason (graph_reasons (judged_by algorithm None seed keys settings) edges equal) ≡ verdict_of (core_said algorithm place seed edges equal) keys settings
no_place algorithm None seed edges equal keys settings none = refl
no_place algorithm (Some p) seed edges equal keys settings none = absurd (cc)

-- the verdict on the 2-core of all keys, by the rule of an algorithm without buckets
pub whole_verdict : (known : Option Told) (algorithm by : Algorithm) (place : Option InBucket) (seed c : ℕ) (edges : List CoreEdge) (equal : List Pair) (settings : Settings) (r : Result Verdict PassFault)
    → algorithm ≡ by → has_buckets by ≡ false → is_some place ≡ has_buckets algorithm → c ≡ unwrap_or settings.c (usual_ratio algorithm)
    → IfOk r (λ verdict. ForSome known (λ told. verdict ≡ first_reason (graph_reasons (record { rule = rule_of by; keys = told.keys; ratio = c; seed = seed }) edges equal)))
    → IfOk r (λ verdict. ForSome known (λ told. verdict ≡ verdict_of (core_said algorithm place seed edges equal) told.keys settings))
whole_verdict known algorithm by place seed c edges equal settings (Err fault) is none place_is ratio h = tt
whole_verdict known algorithm by place seed c edges equal settings (Ok verdict) is none place_is ratio h = λ told told_is.
    h told told_is
    ∙ ap (λ (rule : Rule). first_reason (graph_reasons (record { rule = rule; keys = told.keys; ratio = c; seed = seed }) edges equal)) (ap rule_of (sym is))
    ∙ ap (λ (ratio : ℕ). first_reason (graph_reasons (record { rule = rule_of algorithm; keys = told.keys; ratio = ratio; seed = seed }) edges equal)) ratio
    ∙ no_place algorithm place seed edges equal told.keys settings (place_is ∙ ap has_buckets is ∙ none)

-- the verdict on the 2-core of a bucket
of_bucket : (p : InBucket) (seed m c : ℕ) (edges : List CoreEdge) (equal : List Pair) (keys : List (ℕ × List ℕ)) (settings : Settings) → m ≡ length keys → c ≡ unwrap_or settings.c (usual_ratio Brz)
    → first_reason (core_reasons (Some p) (bucket_count m settings.b) (record { rule = bdz_rule; keys = keys_of_bucket keys (bucket_count m settings.b) p.split p.bucket; ratio = c; seed = seed }) edges equal)
    ≡ verdict_of (core_said Brz (Some p) seed edges equal) keys settings
of_bucket p seed m c edges equal keys settings many ratio =
    ap (λ (n : ℕ). first_reason (core_reasons (Some p) (bucket_count n settings.b) (record { rule = bdz_rule; keys = keys_of_bucket keys (bucket_count n settings.b) p.split p.bucket; ratio = c; seed = seed }) edges equal)) many
    ∙ ap (λ (n : ℕ). first_reason (core_reasons (Some p) (bucket_count (length keys) settings.b) (record { rule = bdz_rule; keys = keys_of_bucket keys (bucket_count (length keys) settings.b) p.split p.bucket; ratio = n; seed = seed }) edges equal)) ratio

pub bucket_verdict : (known : Option Told) (algorithm : Algorithm) (place : Option InBucket) (p : InBucket) (seed m c : ℕ) (edges : List CoreEdge) (equal : List Pair) (settings : Settings) (r : Result Verdict PassFault)
    → algorithm ≡ Brz → place ≡ Some p → ForSome known (AreCounted m) → c ≡ unwrap_or settings.c (usual_ratio algorithm)
    → IfOk r (λ verdict. ForSome known (λ told. verdict ≡ first_reason (core_reasons (Some p) (bucket_count m settings.b) (record { rule = bdz_rule; keys = keys_of_bucket told.keys (bucket_count m settings.b) p.split p.bucket; ratio = c; seed = seed }) edges equal)))
    → IfOk r (λ verdict. ForSome known (λ told. verdict ≡ verdict_of (core_said algorithm place seed edges equal) told.keys settings))
bucket_verdict known algorithm place p seed m c edges equal settings (Err fault) is place_is counted ratio h = tt
bucket_verdict known algorithm place p seed m c edges equal settings (Ok verdict) is place_is counted ratio h = λ told told_is.
    h told told_is
    ∙ of_bucket p seed m c edges equal told.keys settings (sym (counted told told_is).many) (ratio ∙ ap (λ (a : Algorithm). unwrap_or settings.c (usual_ratio a)) is)
    ∙ ap (λ (a : Algorithm). verdict_of (core_said a (Some p) seed edges equal) told.keys settings) (sym is)
    ∙ ap (λ (o : Option InBucket). verdict_of (core_said algorithm o seed edges equal) told.keys settings) (sym place_is)

-- the verdict on an overfull bucket
pub overfull_verdict : (known : Option Told) (split bucket count m : ℕ) (equal : List Pair) (settings : Settings) (r : Result Verdict PassFault) → ForSome known (AreCounted m)
    → IfOk r (λ verdict. ForSome known (λ told. verdict ≡ first_reason (overfull_reasons told.keys (bucket_count m settings.b) split bucket count equal)))
    → IfOk r (λ verdict. ForSome known (λ told. verdict ≡ verdict_of (overfull_said split bucket count equal) told.keys settings))
overfull_verdict known split bucket count m equal settings (Err fault) counted h = tt
overfull_verdict known split bucket count m equal settings (Ok verdict) counted h = λ told told_is.
    h told told_is ∙ ap (λ (n : ℕ). first_reason (overfull_reasons told.keys (bucket_count n settings.b) split bucket count equal)) (sym (counted told told_is).many)

-- passes over counted keys fail as later ones
pub fail_again : {T : Type 0} (known : Option Told) (m : ℕ) (r : Result T PassFault) → ForSome known (AreCounted m) → IfErr r (λ fault. ForSome known (λ told. FailsPass told m fault)) → IfErr r (λ fault. ForSome known (λ told. FailsAgain told fault))
fail_again known m (Ok x) counted h = tt
fail_again known m (Err fault) counted h = λ told told_is. fails_again told m fault (counted told told_is) (h told told_is)
