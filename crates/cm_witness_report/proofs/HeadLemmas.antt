-- The first line of a report.
use Rattle.std.proofs.Common.{◌≡◌, ◌∙◌, inl, inr, ◌<◌, ◌≤◌, ◌&&◌, ℕ, List, [], ◌∷◌, ◌++◌, ap, append_assoc, sym, subst, refl, arith, true, false, Option, None, Some, codes}
use Rattle.std.specs.Fmt.{decimal}
use Rattle.std.proofs.lemmas.Bool.{and_from, and_parts, cond-true, false≢true, true≢false, le-leb, leb-true, lt-ltb, ltb-true}
use Rattle.std.proofs.lemmas.Option.{same_Some}
use Rattle.cm_algo_names.specs.Names.{name_of}
use Rattle.cm_algo_names.specs.declared.algorithm.Algorithm.{Algorithm}
use Rattle.cm_algo_names.specs.declared.algorithm.Algorithm.TheVariants.{Chm, Bdz, BdzPh, Brz}
use Rattle.cm_spec.specs.declared.limits.TheConstants.{MAX_EDGES}
use Rattle.cm_witness_gather.specs.Gathers.{has_buckets}
use Rattle.cm_witness_gather.specs.Reports.{head_line, overfull_head}
use Rattle.cm_witness_gather.specs.declared.certificate.InBucket.{InBucket}
use Rattle.cm_witness_report.specs.Fields.{ends, field_at}
use Rattle.cm_witness_report.specs.Parts.{bucket_head_at, head_at, is_count, overfull_head_at, plain_head_at}
use Rattle.cm_witness_report.specs.Reports.{IsHead, IsPlace, IsSmall, head_text}
use Rattle.cm_witness_report.specs.declared.parts.Head.{Head}
use Rattle.cm_witness_report.specs.declared.parts.Head.TheVariants.{Core, Overfull}
use Rattle.cm_witness_report.proofs.FieldLemmas.{ends_sound, field_sound, field_there}
use Rattle.cm_witness_report.proofs.Tests.{found_then, guard_some, or_first, or_some, step}

-- a first line, and what it says
pub record IsHeadLine (text : List ℕ) (h : Head) : Type 0 where
  pub text_is : text ≡ head_text h
  pub head : IsHead h

-- what the number of edges of a first line has
count_sound : (n : ℕ) → is_count n ≡ true → (0 < n) × (n ≤ MAX_EDGES)
count_sound n is = let tests = and_parts _ _ is in (ltb-true 0 n tests.0, leb-true n MAX_EDGES tests.1)

count_there : (n : ℕ) → 0 < n → n ≤ MAX_EDGES → is_count n ≡ true
count_there n some few = and_from _ _ (lt-ltb 0 n some) (le-leb n MAX_EDGES few)

plain_sound : (algorithm : Algorithm) (text : List ℕ) (h : Head) → has_buckets algorithm ≡ false → plain_head_at algorithm text ≡ Some h → IsHeadLine text h
unfolding plain_head_at
plain_sound algorithm text h plain is =
    let a = step (field_at (codes "core " ++ (name_of algorithm ++ codes " seed ")) text) _ h is in
    let b = step (field_at (codes " edges ") a.value.1) _ h a.next in
    let l = guard_some _ _ h b.next in
    let tests = and_parts _ _ l.0 in
    let count = count_sound b.value.0 tests.1 in
    let fa = field_sound (codes "core " ++ (name_of algorithm ++ codes " seed ")) text a.value a.was in
    let fb = field_sound (codes " edges ") a.value.1 b.value b.was in
    let fe = ends_sound b.value.1 tests.0 in
    let found : Head = Core algorithm None a.value.0 b.value.0 in
    let text_is : text ≡ head_text found =
    fa.0 ∙ ap (λ (l : List ℕ). codes "core " ++ l) (append_assoc (name_of algorithm) (codes " seed ") (decimal a.value.0 ++ a.value.1))
    ∙ ap (λ (r : List ℕ). codes "core " ++ (name_of algorithm ++ (codes " seed " ++ (decimal a.value.0 ++ r)))) (fb.0 ∙ ap (λ (r : List ℕ). codes " edges " ++ (decimal b.value.0 ++ r)) fe) in
    subst (IsHeadLine text) (same_Some found h l.1) (record { text_is = text_is; head = (sym plain, tt, fa.1, count.0, count.1) })

plain_there : (algorithm : Algorithm) (seed n : ℕ) → IsSmall seed → 0 < n → n ≤ MAX_EDGES → plain_head_at algorithm (head_line algorithm None seed n) ≡ Some (Core algorithm None seed n)
unfolding plain_head_at
plain_there algorithm seed n small some few =
    let r1 : List ℕ = 10 ∷ [] in
    let r0 : List ℕ = codes " edges " ++ (decimal n ++ r1) in
    let part : List ℕ = codes "core " ++ (name_of algorithm ++ codes " seed ") in
    let text : head_line algorithm None seed n ≡ part ++ (decimal seed ++ r0) = ap (λ (l : List ℕ). codes "core " ++ l) (sym (append_assoc (name_of algorithm) (codes " seed ") (decimal seed ++ r0))) in
    ap (plain_head_at algorithm) text
    ∙ found_then _ _ (seed, r0) _ (field_there part seed r0 small refl)
    (found_then _ _ (n, r1) _ (field_there (codes " edges ") n r1 (omega (arith, few)) refl)
    (cond-true (is_count n) (let o : Option Head = Some (Core algorithm None seed n) in o) None (count_there n some few)))

-- the first line of a report on a bucket, number by number
pub bucket_text : (p : InBucket) (seed n : ℕ) → head_line Brz (Some p) seed n ≡ codes "core brz split " ++ (decimal p.split ++ (codes " bucket " ++ (decimal p.bucket ++ (codes " seed " ++ (decimal seed ++ (codes " edges " ++ (decimal n ++ (10 ∷ []))))))))
bucket_text p seed n =
    let tail : List ℕ = codes " seed " ++ (decimal seed ++ (codes " edges " ++ (decimal n ++ (10 ∷ [])))) in
    ap (λ (l : List ℕ). codes "core brz split " ++ l) (append_assoc (decimal p.split) (codes " bucket " ++ (decimal p.bucket ++ [])) tail)
    ∙ ap (λ (l : List ℕ). codes "core brz split " ++ (decimal p.split ++ (codes " bucket " ++ l))) (append_assoc (decimal p.bucket) [] tail)

bucket_sound : (text : List ℕ) (h : Head) → bucket_head_at text ≡ Some h → IsHeadLine text h
unfolding bucket_head_at
bucket_sound text h is =
    let a = step (field_at (codes "core brz split ") text) _ h is in
    let b = step (field_at (codes " bucket ") a.value.1) _ h a.next in
    let c = step (field_at (codes " seed ") b.value.1) _ h b.next in
    let d = step (field_at (codes " edges ") c.value.1) _ h c.next in
    let l = guard_some _ _ h d.next in
    let tests = and_parts _ _ l.0 in
    let count = count_sound d.value.0 tests.1 in
    let fa = field_sound (codes "core brz split ") text a.value a.was in
    let fb = field_sound (codes " bucket ") a.value.1 b.value b.was in
    let fc = field_sound (codes " seed ") b.value.1 c.value c.was in
    let fd = field_sound (codes " edges ") c.value.1 d.value d.was in
    let fe = ends_sound d.value.1 tests.0 in
    let place : InBucket = record { split = a.value.0; bucket = b.value.0 } in
    let found : Head = Core Brz (Some place) c.value.0 d.value.0 in
    let tail : List ℕ = codes " seed " ++ (decimal c.value.0 ++ (codes " edges " ++ (decimal d.value.0 ++ (10 ∷ [])))) in
    let regrouped : codes "core brz split " ++ (decimal place.split ++ (codes " bucket " ++ (decimal place.bucket ++ tail))) ≡ head_text found = sym (bucket_text place c.value.0 d.value.0) in
    let text_is : text ≡ head_text found =
    fa.0 ∙ ap (λ (r : List ℕ). codes "core brz split " ++ (decimal a.value.0 ++ r)) (fb.0 ∙ ap (λ (r : List ℕ). codes " bucket " ++ (decimal b.value.0 ++ r)) (fc.0 ∙ ap (λ (r : List ℕ). codes " seed " ++ (decimal c.value.0 ++ r)) (fd.0 ∙ ap (λ (r : List ℕ). codes " edges " ++ (decimal d.value.0 ++ r)) fe)))
    ∙ regrouped in
    subst (IsHeadLine text) (same_Some found h l.1) (record { text_is = text_is; head = (refl, (fa.1, fb.1), fc.1, count.0, count.1) })

-- the parts of a first line of a report on a bucket, found one after another
pub bucket_found : (text r0 r1 r2 r3 : List ℕ) (p : InBucket) (seed n : ℕ) → field_at (codes "core brz split ") text ≡ Some (p.split, r0) → field_at (codes " bucket ") r0 ≡ Some (p.bucket, r1) → field_at (codes " seed ") r1 ≡ Some (seed, r2) → field_at (codes " edges ") r2 ≡ Some (n, r3)
    → ends r3 ≡ true → is_count n ≡ true → Some (Core Brz (Some p) seed n) ≡ bucket_head_at text
unfolding bucket_head_at
bucket_found text r0 r1 r2 r3 p seed n a b c d end count = sym (found_then _ _ (p.split, r0) _ a (found_then _ _ (p.bucket, r1) _ b (found_then _ _ (seed, r2) _ c (found_then _ _ (n, r3) _ d
    (cond-true (ends r3 && is_count n) (let o : Option Head = Some (Core Brz (Some p) seed n) in o) None (and_from _ _ end count))))))

bucket_there : (p : InBucket) (seed n : ℕ) → IsPlace p → IsSmall seed → 0 < n → n ≤ MAX_EDGES → bucket_head_at (head_line Brz (Some p) seed n) ≡ Some (Core Brz (Some p) seed n)
unfolding bucket_head_at
bucket_there p seed n place small some few =
    let r3 : List ℕ = 10 ∷ [] in
    let r2 : List ℕ = codes " edges " ++ (decimal n ++ r3) in
    let r1 : List ℕ = codes " seed " ++ (decimal seed ++ r2) in
    let r0 : List ℕ = codes " bucket " ++ (decimal p.bucket ++ r1) in
    ap bucket_head_at (bucket_text p seed n)
    ∙ found_then _ _ (p.split, r0) _ (field_there (codes "core brz split ") p.split r0 place.0 refl)
    (found_then _ _ (p.bucket, r1) _ (field_there (codes " bucket ") p.bucket r1 place.1 refl)
    (found_then _ _ (seed, r2) _ (field_there (codes " seed ") seed r2 small refl)
    (found_then _ _ (n, r3) _ (field_there (codes " edges ") n r3 (omega (arith, few)) refl)
    (cond-true (is_count n) (let o : Option Head = Some (Core Brz (Some p) seed n) in o) None (count_there n some few)))))

overfull_sound : (text : List ℕ) (h : Head) → overfull_head_at text ≡ Some h → IsHeadLine text h
unfolding overfull_head_at
overfull_sound text h is =
    let a = step (field_at (codes "overfull brz seed ") text) _ h is in
    let b = step (field_at (codes " bucket ") a.value.1) _ h a.next in
    let c = step (field_at (codes " keys ") b.value.1) _ h b.next in
    let l = guard_some _ _ h c.next in
    let fa = field_sound (codes "overfull brz seed ") text a.value a.was in
    let fb = field_sound (codes " bucket ") a.value.1 b.value b.was in
    let fc = field_sound (codes " keys ") b.value.1 c.value c.was in
    let fe = ends_sound c.value.1 l.0 in
    let found : Head = Overfull a.value.0 b.value.0 c.value.0 in
    let text_is : text ≡ head_text found =
    fa.0 ∙ ap (λ (r : List ℕ). codes "overfull brz seed " ++ (decimal a.value.0 ++ r)) (fb.0 ∙ ap (λ (r : List ℕ). codes " bucket " ++ (decimal b.value.0 ++ r)) (fc.0 ∙ ap (λ (r : List ℕ). codes " keys " ++ (decimal c.value.0 ++ r)) fe)) in
    subst (IsHeadLine text) (same_Some found h l.1) (record { text_is = text_is; head = (fa.1, fb.1, fc.1) })

overfull_there : (seed bucket count : ℕ) → IsSmall seed → IsSmall bucket → IsSmall count → overfull_head_at (overfull_head seed bucket count) ≡ Some (Overfull seed bucket count)
unfolding overfull_head_at
overfull_there seed bucket count a b c =
    let r2 : List ℕ = 10 ∷ [] in
    let r1 : List ℕ = codes " keys " ++ (decimal count ++ r2) in
    let r0 : List ℕ = codes " bucket " ++ (decimal bucket ++ r1) in
    found_then _ _ (seed, r0) _ (field_there (codes "overfull brz seed ") seed r0 a refl)
    (found_then _ _ (bucket, r1) _ (field_there (codes " bucket ") bucket r1 b refl)
    (found_then _ _ (count, r2) _ (field_there (codes " keys ") count r2 c refl) refl))

-- a first line that is read is the text of what it says
pub head_sound : (text : List ℕ) (h : Head) → head_at text ≡ Some h → IsHeadLine text h
head_sound text h is = elim (or_some (plain_head_at Chm text) _ h is) [
  | inl chm ↦ plain_sound Chm text h refl chm
  | inr more ↦ elim (or_some (plain_head_at Bdz text) _ h more) [
    | inl bdz ↦ plain_sound Bdz text h refl bdz
    | inr others ↦ elim (or_some (plain_head_at BdzPh text) _ h others) [
      | inl bdz_ph ↦ plain_sound BdzPh text h refl bdz_ph
      | inr last ↦ elim (or_some (bucket_head_at text) _ h last) [
        | inl brz ↦ bucket_sound text h brz
        | inr overfull ↦ overfull_sound text h overfull
      ]
    ]
  ]
]

-- and it is read again
pub head_there : (h : Head) → IsHead h → head_at (head_text h) ≡ Some h
unfolding plain_head_at bucket_head_at field_at
head_there (Core Chm None seed n) is = or_first _ _ _ (plain_there Chm seed n is.2 is.3 is.4)
head_there (Core Bdz None seed n) is = or_first _ _ _ (plain_there Bdz seed n is.2 is.3 is.4)
head_there (Core BdzPh None seed n) is = or_first _ _ _ (plain_there BdzPh seed n is.2 is.3 is.4)
head_there (Core Brz None seed n) is = absurd (false≢true is.0)
head_there (Core Chm (Some p) seed n) is = absurd (true≢false is.0)
head_there (Core Bdz (Some p) seed n) is = absurd (true≢false is.0)
head_there (Core BdzPh (Some p) seed n) is = absurd (true≢false is.0)
head_there (Core Brz (Some p) seed n) is = or_first _ _ _ (bucket_there p seed n is.1 is.2 is.3 is.4)
head_there (Overfull seed bucket count) is = overfull_there seed bucket count is.0 is.1 is.2
