-- What is listed of one vertex more: its place is written in any case, and counted if its half-edge is alone.
use Rattle.std.proofs.Common.{◌≡◌, ◌+◌, ◌<◌, ℕ, zero, suc, Bool, true, false, cond, eqb, List, [], ◌∷◌, ◌++◌, length, set, take, map, filter, sym, refl, ap, ◌∙◌, arith}
use Rattle.std.proofs.lemmas.List.{take_more_set, take-set, map-append, append-nil}
use Rattle.std.proofs.lemmas.List.Elements.{filter-append}
use mir.Val.{bool_byte}
use Rattle.cm_spec.specs.Lists.{numbers_from}
use Rattle.cm_graph_edges.specs.Graph.{Links, degree_of, place_of, is_free, alone_of, alone_from}

numbers_more : (b n : ℕ) → numbers_from b (n + 1) ≡ numbers_from b n ++ (b + n) ∷ []
numbers_more b zero = ap (λ x. x ∷ []) (let e : b ≡ b + 0 = omega arith in e)
numbers_more b (suc n) =
    let one : suc n + 1 ≡ suc (n + 1) = omega arith in
    let last : suc b + n ≡ b + suc n = omega arith in
    ap (numbers_from b) one ∙ (ap (λ xs. b ∷ xs) (numbers_more (suc b) n) ∙ ap (λ x. b ∷ (numbers_from (suc b) n ++ x ∷ [])) last)

alone_one : (l : Links) (v : ℕ) (b : Bool) → is_free l v ≡ b → alone_of l (v ∷ []) ≡ cond b (place_of l v ∷ []) []
alone_one l v true is = ap (λ c. map (place_of l) (cond c (v ∷ []) [])) is
alone_one l v false is = ap (λ c. map (place_of l) (cond c (v ∷ []) [])) is

alone_more : (l : Links) (first i : ℕ) → alone_from l first (i + 1) ≡ alone_from l first i ++ alone_of l ((first + i) ∷ [])
alone_more l first i = ap (alone_of l) (numbers_more first i) ∙ (ap (map (place_of l)) (filter-append (is_free l) (numbers_from first i) ((first + i) ∷ [])) ∙ map-append (place_of l) (filter (is_free l) (numbers_from first i)) (filter (is_free l) ((first + i) ∷ [])))

pub listed_more : (l : Links) (first i count y d : ℕ) (now : List ℕ) → count < length now → d ≡ degree_of l (first + i) → (is_free l (first + i) ≡ true → y ≡ place_of l (first + i)) → take count now ≡ alone_from l first i
    → take (count + bool_byte (eqb d 1)) (set now count y) ≡ alone_from l first (i + 1)
listed_more l first i count y d now room degree written was = go (eqb d 1) refl ∙ sym (alone_more l first i) where
  go : (b : Bool) → eqb d 1 ≡ b → take (count + bool_byte (eqb d 1)) (set now count y) ≡ alone_from l first i ++ alone_of l ((first + i) ∷ [])
  go true b =
      let free : is_free l (first + i) ≡ true = ap (λ k. eqb k 1) (sym degree) ∙ b in
      ap (λ c. take (count + bool_byte c) (set now count y)) b ∙ (take_more_set now count y room ∙ (ap (λ ys. ys ++ y ∷ []) was ∙ (ap (λ z. alone_from l first i ++ z ∷ []) (written free) ∙ ap (λ zs. alone_from l first i ++ zs) (sym (alone_one l (first + i) true free)))))
  go false b =
      let busy : is_free l (first + i) ≡ false = ap (λ k. eqb k 1) (sym degree) ∙ b in
      let same : count + 0 ≡ count = omega arith in
      ap (λ c. take (count + bool_byte c) (set now count y)) b ∙ (ap (λ n. take n (set now count y)) same ∙ (take-set now count y ∙ (was ∙ (sym (append-nil (alone_from l first i)) ∙ ap (λ zs. alone_from l first i ++ zs) (sym (alone_one l (first + i) false busy))))))
