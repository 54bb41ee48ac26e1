-- What a place says of its key.
use Rattle.std.proofs.Common.{◌≡◌, ◌∙◌, ℕ, ◌<◌, ◌%◌, ◌^◌, ◌++◌, List, [], ◌∷◌, length, refl, sym, arith, Bool, true, false, if◌then◌else◌, eqb}
use Rattle.std.specs.Prelude.{slice_index, slice_index_or, Option}
use Rattle.std.proofs.lemmas.Nat.{mod_below}
use Rattle.cm_brz_func.specs.Functions.{Bucket, answer_in, bucket_of}
use Rattle.cm_brz_func.specs.Places.{ends_in}
use Rattle.cm_spec.specs.Bdz.{bdz_edge}
use Rattle.cm_spec.specs.Lookup2.{words}
use Rattle.cm_dump_brz.specs.Indexed.{IndexedBrz, bucket_by, indexed_answer, indexed_place, number_after, word_of}

last_of : (b : Bucket) (key : List ℕ) (j : ℕ) → slice_index_or (ends_in b key ++ j ∷ []) 3 0 ≡ j
last_of b key j = go (eqb b.size 0) where
  go : (t : Bool) → slice_index_or ((if t then 0 ∷ 0 ∷ 0 ∷ [] else bdz_edge (words key b.seed) (length b.cells)) ++ j ∷ []) 3 0 ≡ j
  go true = refl
  go false = refl

ends_of : (b : Bucket) (key : List ℕ) (j : ℕ) → (let p : List ℕ = ends_in b key ++ j ∷ [] in slice_index_or p 0 0 ∷ slice_index_or p 1 0 ∷ slice_index_or p 2 0 ∷ []) ≡ ends_in b key
ends_of b key j = go (eqb b.size 0) where
  edge : Bool → List ℕ
  edge t = if t then 0 ∷ 0 ∷ 0 ∷ [] else bdz_edge (words key b.seed) (length b.cells)

  go : (t : Bool) → (let p : List ℕ = edge t ++ j ∷ [] in slice_index_or p 0 0 ∷ slice_index_or p 1 0 ∷ slice_index_or p 2 0 ∷ []) ≡ edge t
  go true = refl
  go false = refl

-- its last number is the key's bucket, and the others are the vertices in it
pub place_bucket : (f : IndexedBrz) (key place : List ℕ) → place ≡ indexed_place f key → slice_index_or place 3 0 ≡ bucket_of key f.split (length f.index)
place_bucket f key place is = rw is (last_of (bucket_by f (word_of f key)) key (bucket_of key f.split (length f.index)))

pub place_ends : (f : IndexedBrz) (key place : List ℕ) → place ≡ indexed_place f key → slice_index_or place 0 0 ∷ slice_index_or place 1 0 ∷ slice_index_or place 2 0 ∷ [] ≡ ends_in (bucket_by f (slice_index f.index (slice_index_or place 3 0))) key
place_ends f key place is =
    let j = place_bucket f key place is in
    rw (j, is) (ends_of (bucket_by f (word_of f key)) key (bucket_of key f.split (length f.index)))

pub place_inside : (f : IndexedBrz) (key place : List ℕ) → 0 < length f.index → place ≡ indexed_place f key → slice_index_or place 3 0 < length f.index
place_inside f key place some is = rw (place_bucket f key place is) (mod_below _ (length f.index) some)

-- the answer, by the bucket and the number of keys before it
pub answer_is : (f : IndexedBrz) (key place : List ℕ) (before : ℕ) (answer : Option ℕ) → place ≡ indexed_place f key → before ≡ slice_index f.index (slice_index_or place 3 0) % 2 ^ 32 → answer ≡ answer_in (bucket_by f (slice_index f.index (slice_index_or place 3 0))) key
    → number_after f.keys before answer ≡ indexed_answer f key
answer_is f key place before answer is offset known = rw (known, offset, place_bucket f key place is) refl
