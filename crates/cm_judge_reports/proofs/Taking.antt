-- How the keys of a bucket are taken from a pass, and what is seen of them.
use Rattle.std.proofs.Common.{◌≡◌, ℕ, ◌+◌, ◌<◌, ◌≤◌, Bool, true, false, cond, eqb, List, [], ◌∷◌, ◌++◌, append_assoc, length, length-append, map, refl, sym, ap, ◌∙◌, inl, inr, arith, Option, Some, option_map}
use Rattle.std.specs.List.{filter}
use Rattle.std.proofs.lemmas.Bool.{cond-true, eq-eqb}
use Rattle.std.proofs.lemmas.List.{append-nil}
use Rattle.std.proofs.lemmas.List.Elements.{filter-append}
use Rattle.cm_brz_func.specs.Functions.{bucket_of}
use Rattle.cm_brz_func.specs.Splitting.{keys_of_bucket, size_of_bucket}
use Rattle.cm_brz_split.specs.SizesLaws.{length_filter-cons}
use Rattle.cm_judge_reports.proofs.Lowest.{first_passes}
use Rattle.cm_judge_core.specs.LeastLaws.{least_is}
use Rattle.cm_judge_reports.specs.Buckets.{AddsNext}
use Rattle.cm_judge_verdict.specs.BucketLaws.{in_bucket}
use Rattle.cm_judge_verdict.specs.Judged.{Judged}
use Rattle.cm_judge_verdict.specs.MemberLaws.{Comes, In, In-map_back, low_of}
use Rattle.cm_judge_verdict.specs.Rising.{RisesBy}
use Rattle.cm_judge_verdict.specs.Verdicts.{core_reasons, first_reason, graph_reasons, lines_unknown, lowest, no_bucket}
use Rattle.cm_judge_verdict.specs.declared.verdict.Reason.TheVariants.{NoKey}
use Rattle.cm_judge_verdict.specs.declared.verdict.Verdict.{Verdict}
use Rattle.cm_spec.specs.Bdz.{bdz_rule}
use Rattle.cm_spec.specs.declared.limits.TheConstants.{MAX_BUCKET}
use Rattle.cm_witness_gather.specs.declared.certificate.CoreEdge.{CoreEdge}
use Rattle.cm_witness_gather.specs.declared.certificate.InBucket.{InBucket}
use Rattle.cm_witness_gather.specs.declared.certificate.Pair.{Pair}

-- of all keys these are left, and of the others those of the bucket were taken
pub record AreTakenBut (taken left all : List (ℕ × List ℕ)) (k split bucket : ℕ) : Type 0 where
  pub all_are : taken ++ keys_of_bucket left k split bucket ≡ keys_of_bucket all k split bucket

-- one key more
pub taken_more : (taken now left rest all : List (ℕ × List ℕ)) (k split bucket : ℕ) → AreTakenBut taken left all k split bucket → AddsNext left rest k split bucket true taken now → AreTakenBut now rest all k split bucket
taken_more taken now left rest all k split bucket before next =
    let here : List (ℕ × List ℕ) → List (ℕ × List ℕ) = λ keys. keys_of_bucket keys k split bucket in
    let parts : here left ≡ here (next.key ∷ []) ++ here rest = ap here next.is ∙ filter-append (λ (key : ℕ × List ℕ). eqb (bucket_of key.1 split k) bucket) (next.key ∷ []) rest in
    record {
      all_are =
          ap (λ (keys : List (ℕ × List ℕ)). keys ++ here rest) (next.adds.added refl)
          ∙ append_assoc taken (here (next.key ∷ [])) (here rest)
          ∙ ap (λ (keys : List (ℕ × List ℕ)). taken ++ keys) (sym parts)
          ∙ before.all_are;
    }

-- there are more keys than a bucket may have
pub taken_full : (taken now left rest all : List (ℕ × List ℕ)) (k split bucket : ℕ) → AreTakenBut taken left all k split bucket → AddsNext left rest k split bucket false taken now → MAX_BUCKET < size_of_bucket all k split bucket
taken_full taken now left rest all k split bucket before next =
    let test : ℕ × List ℕ → Bool = λ key. eqb (bucket_of key.1 split k) bucket in
    let full : (MAX_BUCKET ≤ length taken) × (bucket_of next.key.1 split k ≡ bucket) = next.adds.full refl in
    let one : cond {A = ℕ} (test next.key) 1 0 ≡ 1 = cond-true (test next.key) 1 0 (eq-eqb _ bucket full.1) in
    let more : size_of_bucket left k split bucket ≡ cond {A = ℕ} (test next.key) 1 0 + size_of_bucket rest k split bucket = ap (λ (keys : List (ℕ × List ℕ)). size_of_bucket keys k split bucket) next.is ∙ length_filter-cons test next.key rest in
    let sum : length taken + size_of_bucket left k split bucket ≡ size_of_bucket all k split bucket = sym (length-append taken (keys_of_bucket left k split bucket)) ∙ ap length before.all_are in
    let most : MAX_BUCKET ≤ length taken = full.0 in
    omega arith

-- no key is left
pub all_taken : (taken left all : List (ℕ × List ℕ)) (k split bucket : ℕ) → AreTakenBut taken left all k split bucket → left ≡ [] → taken ≡ keys_of_bucket all k split bucket
all_taken taken left all k split bucket before none = sym (append-nil taken) ∙ ap (λ (keys : List (ℕ × List ℕ)). taken ++ keys_of_bucket keys k split bucket) (sym none) ∙ before.all_are

-- the verdict of the keys that were taken, if the bucket is there and has no more than one may have
pub verdict_taken : (place : InBucket) (k ratio seed : ℕ) (taken own : List (ℕ × List ℕ)) (edges : List CoreEdge) (equal : List Pair) (verdict : Verdict) → place.bucket < k → length taken ≤ MAX_BUCKET → taken ≡ own
    → verdict ≡ first_reason (graph_reasons (record { rule = bdz_rule; keys = taken; ratio = ratio; seed = seed }) edges equal)
    → verdict ≡ first_reason (core_reasons (Some place) k (record { rule = bdz_rule; keys = own; ratio = ratio; seed = seed }) edges equal)
verdict_taken place k ratio seed taken own edges equal verdict there few are is =
    let judged : List (ℕ × List ℕ) → Judged = λ keys. record { rule = bdz_rule; keys = keys; ratio = ratio; seed = seed } in
    let same : verdict ≡ first_reason (core_reasons (Some place) k (judged taken) edges equal) = is ∙ sym (first_passes (no_bucket (Some place) k (length taken)) (graph_reasons (judged taken) edges equal) (in_bucket (Some place) k (length taken) (there, few))) in
    same ∙ ap (λ (keys : List (ℕ × List ℕ)). first_reason (core_reasons (Some place) k (judged keys) edges equal)) are

-- without keys, no line is that of a key
keep_all : (xs : List ℕ) → filter (λ _. true) xs ≡ xs
keep_all [] = refl
keep_all (x ∷ xs) = ap (λ (ys : List ℕ). x ∷ ys) (keep_all xs)

pub lowest_unknown : (e : CoreEdge) (es : List CoreEdge) → RisesBy (λ x. x.line) 0 (e ∷ es) → Some (NoKey e.line) ≡ lowest NoKey (lines_unknown [] (e ∷ es))
lowest_unknown e es rise =
    let lines : List ℕ = map (λ (x : CoreEdge). x.line) (e ∷ es) in
    let all : lines_unknown [] (e ∷ es) ≡ lines = keep_all lines in
    sym (ap (lowest NoKey) all ∙ ap (λ (o : Option ℕ). option_map NoKey o) (least_is lines e.line (inl refl) (λ l m. low l m)))
  where
    low : (l : ℕ) → In (map (λ (x : CoreEdge). x.line) (e ∷ es)) l → e.line ≤ l
    low l (inl is) = omega arith
    low l (inr m) =
        let c : Comes (λ (x : CoreEdge). x.line) es l = In-map_back (λ (x : CoreEdge). x.line) es l m in
        let h : e.line < c.from.line = low_of (λ (x : CoreEdge). x.line) _ es c.from rise.1 c.member in
        omega (arith, c.is)
