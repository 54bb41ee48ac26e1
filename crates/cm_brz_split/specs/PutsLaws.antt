-- Lemmas about keys that were put into a store, bucket by bucket.
use Rattle.std.proofs.Common.{◌≡◌, ℕ, true, false, cond, List, [], ◌∷◌, map, eqb, refl, ap}
use Rattle.cm_brz_func.specs.Functions.{bucket_of}
use Rattle.cm_brz_split.specs.Puts.{keys_in_bucket, record_of, records_under}
use Rattle.cm_brz_split.specs.Records.{Record, records_of}
use Rattle.cm_brz_func.specs.Splitting.{keys_of_bucket}

-- the records of a bucket are its keys
pub keys_of_records : (keys : List (ℕ × List ℕ)) (k split j : ℕ) → keys_in_bucket (records_under keys k split) j ≡ keys_of_bucket keys k split j
keys_of_records [] k split j = refl
keys_of_records (x ∷ xs) k split j =
    let rest : List Record = records_of j (records_under xs k split) in
    let tail : List (ℕ × List ℕ) = keys_of_bucket xs k split j in
    let ih : map (λ r. (r.line, r.key)) rest ≡ tail = keys_of_records xs k split j in
    elim (eqb (bucket_of x.1 split k) j) as (λ b. map (λ r. (r.line, r.key)) (cond b (record_of k split x ∷ rest) rest) ≡ cond b (x ∷ tail) tail) [ true ↦ ap (λ (ys : List (ℕ × List ℕ)). x ∷ ys) ih | false ↦ ih ]
