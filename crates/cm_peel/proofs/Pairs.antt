-- Half-edges that are written as two numbers each.
use Rattle.std.proofs.Common.{◌≡◌, ℕ, zero, suc, ◌+◌, ◌*◌, ◌<◌, ◌≤◌, List, [], ◌∷◌, ◌++◌, length, get_or, set, take, drop, sym, refl, ap, ◌∙◌, arith}
use Rattle.std.proofs.Math.ListN.{length-set}
use Rattle.std.proofs.lemmas.List.{take_more, take_more_set}
use Rattle.cm_graph_edges.specs.declared.incidence.Half.{Half}
use Rattle.cm_peel.specs.Waiting.{halves_in}

-- how many there are, and each of them
pub pairs_long : (pairs : List ℕ) (n : ℕ) → length pairs ≡ 2 * n → length (halves_in pairs) ≡ n
pairs_long [] n long = omega (arith, long)
pairs_long (v ∷ []) n long = absurd (omega (arith, long))
pairs_long (v ∷ q ∷ rest) zero long = absurd (omega (arith, long))
pairs_long (v ∷ q ∷ rest) (suc n) long = ap suc (pairs_long rest n (omega (arith, long)))

pub pairs_at : (pairs : List ℕ) (i : ℕ) (d : Half) → 2 * i + 1 < length pairs → get_or (halves_in pairs) i d ≡ record { vertex = get_or pairs (2 * i) 0; place = get_or pairs (2 * i + 1) 0 }
pairs_at [] i d h = absurd (omega arith)
pairs_at (v ∷ []) i d h = absurd (omega arith)
pairs_at (v ∷ q ∷ rest) zero d h = refl
pairs_at (v ∷ q ∷ rest) (suc i) d h =
    let a : 2 * suc i ≡ suc (suc (2 * i)) = omega arith in
    let b : suc (suc (2 * i)) + 1 ≡ suc (suc (2 * i + 1)) = omega arith in
    rw (a, b) (pairs_at rest i d (omega arith))

-- one more
pub set_within : {X : Type 0} (xs : List X) (i : ℕ) (y : X) → i < length xs → i + 1 ≤ length (set xs i y)
set_within xs i y h = omega (arith, h, length-set xs i y)

pub pair_read : (pairs : List ℕ) (halves : List Half) (i n v q : ℕ) → length pairs ≡ 2 * n → i < n → n ≡ length halves → take i halves ≡ take i (halves_in pairs) → v ≡ get_or pairs (2 * i) 0 → q ≡ get_or pairs (2 * i + 1) 0 → take (i + 1) (set halves i (record { vertex = v; place = q })) ≡ take (i + 1) (halves_in pairs)
pair_read pairs halves i n v q long low many was vertex place =
    let d : Half = record { vertex = v; place = q } in
    let here : get_or (halves_in pairs) i d ≡ d = pairs_at pairs i d (omega (arith, long)) ∙ (ap (λ x. record { vertex = x; place = get_or pairs (2 * i + 1) 0 }) (sym vertex) ∙ ap (λ x. record { vertex = v; place = x }) (sym place)) in
    take_more_set halves i d (omega (arith, many)) ∙ (ap (λ (hs : List Half). hs ++ d ∷ []) was ∙ (ap (λ (x : Half). take i (halves_in pairs) ++ x ∷ []) (sym here) ∙ sym (take_more (halves_in pairs) i d (omega (arith, pairs_long pairs n long)))))

-- pieces of them
pub pairs-take : (pairs : List ℕ) (n : ℕ) → halves_in (take (2 * n) pairs) ≡ take n (halves_in pairs)
pairs-take pairs zero = refl
pairs-take [] (suc n) = let a : 2 * suc n ≡ suc (suc (2 * n)) = omega arith in rw a refl
pairs-take (v ∷ []) (suc n) = let a : 2 * suc n ≡ suc (suc (2 * n)) = omega arith in rw a refl
pairs-take (v ∷ q ∷ rest) (suc n) = let a : 2 * suc n ≡ suc (suc (2 * n)) = omega arith in rw a (ap (λ (hs : List Half). record { vertex = v; place = q } ∷ hs) (pairs-take rest n))

pub pairs-drop : (pairs : List ℕ) (n : ℕ) → halves_in (drop (2 * n) pairs) ≡ drop n (halves_in pairs)
pairs-drop pairs zero = refl
pairs-drop [] (suc n) = let a : 2 * suc n ≡ suc (suc (2 * n)) = omega arith in rw a refl
pairs-drop (v ∷ []) (suc n) = let a : 2 * suc n ≡ suc (suc (2 * n)) = omega arith in rw a refl
pairs-drop (v ∷ q ∷ rest) (suc n) = let a : 2 * suc n ≡ suc (suc (2 * n)) = omega arith in rw a (pairs-drop rest n)
