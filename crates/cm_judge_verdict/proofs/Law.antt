-- A report holds exactly if it is true.
use Rattle.std.proofs.Common.{◌≡◌, ◌↔◌, ℕ, List, length, refl, Option, None, Some}
use Rattle.cm_algo_names.specs.declared.algorithm.Algorithm.{Algorithm}
use Rattle.cm_judge_verdict.specs.Judged.{Judged, buckets_for, judged_by, keys_in_place}
use Rattle.cm_judge_verdict.specs.Truth.{HaveRisingLines, IsTrue}
use Rattle.cm_judge_verdict.specs.Verdicts.{verdict_of}
use Rattle.cm_judge_verdict.specs.declared.verdict.Settings.{Settings}
use Rattle.cm_judge_verdict.specs.declared.verdict.Verdict.TheVariants.{Holds}
use Rattle.cm_judge_verdict.specs.BucketLaws.{bucket_in, in_bucket, overfull_true, true_overfull}
use Rattle.cm_judge_verdict.specs.CoreLaws.{Given, HasNoReason, no_reason, true_core}
use Rattle.cm_judge_verdict.specs.LackingLaws.{first_holds, holds_first}
use Rattle.cm_judge_verdict.specs.MemberLaws.{RisesBy-filter}
use Rattle.cm_judge_verdict.specs.Rising.{RisesBy}
use Rattle.cm_judge_verdict.specs.PlaceLaws.{lines_rise, rules_shape}
use Rattle.cm_witness_gather.specs.Gathers.{has_third}
use Rattle.cm_witness_gather.specs.declared.certificate.CoreEdge.{CoreEdge}
use Rattle.cm_witness_gather.specs.declared.certificate.InBucket.{InBucket}
use Rattle.cm_witness_gather.specs.declared.certificate.Pair.{Pair}
use Rattle.cm_judge_verdict.specs.ReportLaws.{shown_edges_rise, shown_pairs_rise}
use Rattle.cm_witness_report.specs.Reports.{IsCoreReport, IsReport, Said, core_said, overfull_said}

-- the keys of a bucket have rising lines too
place_rises : (place : Option InBucket) (keys : List (ℕ × List ℕ)) (settings : Settings) → HaveRisingLines keys → RisesBy (λ k. k.0) 0 (keys_in_place place keys settings)
place_rises None keys settings h = lines_rise keys h
place_rises (Some p) keys settings h = RisesBy-filter (λ (k : ℕ × List ℕ). k.0) _ 0 keys (lines_rise keys h)

given_by : (algorithm : Algorithm) (place : Option InBucket) (seed : ℕ) (edges : List CoreEdge) (equal : List Pair) (keys : List (ℕ × List ℕ)) (settings : Settings) → IsCoreReport algorithm place seed edges equal → HaveRisingLines keys → Given (judged_by algorithm place seed keys settings) edges equal
given_by algorithm place seed edges equal keys settings report rising = record {
  shapes = rules_shape algorithm;
  keys_rise = place_rises place keys settings rising;
  edges_rise = shown_edges_rise (has_third algorithm) 0 edges report.edges_are;
  pairs_rise = shown_pairs_rise 0 equal report.pairs_are;
  some = report.some;
}

holds_true : (said : Said) (keys : List (ℕ × List ℕ)) (settings : Settings) → IsReport said → HaveRisingLines keys → verdict_of said keys settings ≡ Holds → IsTrue said keys settings
holds_true (core_said algorithm place seed edges equal) keys settings report rising h =
    let j : Judged = judged_by algorithm place seed keys settings in
    let a = first_holds _ _ h in
    let b = first_holds _ _ a.1 in
    let c = first_holds _ _ b.1 in
    let d = first_holds _ _ c.1 in
    let e = first_holds _ _ d.1 in
    let f = first_holds _ _ e.1 in
    let none : HasNoReason j edges equal = record { keys = b.0; ends = c.0; once = d.0; all = e.0; pairs = f.0 } in
    (bucket_in place (buckets_for keys settings) (length j.keys) a.0, true_core j edges equal (given_by algorithm place seed edges equal keys settings report rising) none)
holds_true (overfull_said split bucket count equal) keys settings report rising h =
    overfull_true keys (buckets_for keys settings) split bucket count equal (lines_rise keys rising) (shown_pairs_rise 0 equal report.pairs_are) h

true_holds : (said : Said) (keys : List (ℕ × List ℕ)) (settings : Settings) → IsTrue said keys settings → verdict_of said keys settings ≡ Holds
true_holds (core_said algorithm place seed edges equal) keys settings holds =
    let j : Judged = judged_by algorithm place seed keys settings in
    let none : HasNoReason j edges equal = no_reason j edges equal (rules_shape algorithm) holds.1 in
    holds_first _ _ (in_bucket place (buckets_for keys settings) (length j.keys) holds.0)
    (holds_first _ _ none.keys (holds_first _ _ none.ends (holds_first _ _ none.once (holds_first _ _ none.all (holds_first _ _ none.pairs refl)))))
true_holds (overfull_said split bucket count equal) keys settings holds = true_overfull keys (buckets_for keys settings) split bucket count equal holds

pub holds_if_true : (said : Said) (keys : List (ℕ × List ℕ)) (settings : Settings) → IsReport said → HaveRisingLines keys → (verdict_of said keys settings ≡ Holds) ↔ IsTrue said keys settings
holds_if_true said keys settings report rising = (holds_true said keys settings report rising, true_holds said keys settings)
