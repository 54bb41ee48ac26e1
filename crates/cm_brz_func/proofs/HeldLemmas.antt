-- Buckets, from what is kept of them.
use Rattle.std.proofs.Common.{◌≡◌, ◌∙◌, ℕ, zero, suc, ◌+◌, ◌-◌, ◌<◌, List, [], ◌∷◌, ◌++◌, length, get_or, ap, arith, refl}
use Rattle.cm_brz_func.specs.Kept.{all_held, held_of, none_held, offset_at}
use Rattle.cm_brz_func.specs.declared.held.Held.{Held}
use Rattle.cm_brz_func.specs.declared.held.Kept.{Kept}

-- the value of an index past the end
abbrev pub none_kept : Kept
none_kept = record { start = 0; offset = 0; seed = 0 }

pub length_all_held : (c n : ℕ) (kept : List Kept) → length (all_held c n kept) ≡ length kept
length_all_held c n [] = refl
length_all_held c n (k ∷ kept) = ap suc (length_all_held c n kept)

-- bucket j has the keys before those of the next one
pub held_is : (c n : ℕ) (kept : List Kept) (j : ℕ) → j < length kept → get_or (all_held c n kept) j none_held ≡ held_of c (get_or kept j none_kept) (offset_at kept n (j + 1) - (get_or kept j none_kept).offset)
held_is c n [] j inside = absurd (omega (arith, inside))
held_is c n (k ∷ kept) zero inside = refl
held_is c n (k ∷ kept) (suc j) inside =
    let past : suc j + 1 ≡ suc (j + 1) = omega arith in
    rw past (held_is c n kept j (omega (arith, inside)))

-- the buckets so far stay as another one comes
pub all_held_then : (c n size : ℕ) (kept : List Kept) (k : Kept) → k.offset ≡ n → all_held c (n + size) (kept ++ k ∷ []) ≡ all_held c n kept ++ held_of c k size ∷ []
all_held_then c n size [] k is = ap (λ (s : ℕ). held_of c k s ∷ []) (omega (arith, is))
all_held_then c n size (x ∷ []) k is =
    let last : n + size - k.offset ≡ size = omega (arith, is) in
    ap (λ (o : ℕ). held_of c x (o - x.offset) ∷ held_of c k (n + size - k.offset) ∷ []) is ∙ ap (λ (s : ℕ). held_of c x (n - x.offset) ∷ held_of c k s ∷ []) last
all_held_then c n size (x ∷ y ∷ kept) k is = ap (λ (l : List Held). held_of c x (y.offset - x.offset) ∷ l) (all_held_then c n size (y ∷ kept) k is)
