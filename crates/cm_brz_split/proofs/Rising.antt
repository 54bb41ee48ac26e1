-- The lines of keys that pass one by one.
use Rattle.std.proofs.Common.{◌≡◌, ◌∙◌, ◌⊎◌, inl, inr, ℕ, ◌+◌, ◌<◌, ◌≤◌, List, [], ◌∷◌, length, map, drop, get_or, get_or-drop, add-zero, ap, sym, arith}
use Rattle.std.specs.List.Sorted.{IsStrictlyIncreasing}
use Rattle.std.proofs.lemmas.Bool.{cases_lt}
use Rattle.std.proofs.lemmas.List.{drop-map, length-map}

abbrev pub lines_of : List (ℕ × List ℕ) → List ℕ
lines_of keys = map (λ key. key.0) keys

-- the lines of so many keys rise, up to the last one
pub record RiseTo (count last : ℕ) (keys : List (ℕ × List ℕ)) : Type 0 where
  pub rise : (k : ℕ) → k + 1 < count → get_or (lines_of keys) k 0 < get_or (lines_of keys) (k + 1) 0
  pub last_is : (k : ℕ) → k + 1 ≡ count → get_or (lines_of keys) k 0 ≤ last

pub none_rise : (last : ℕ) (keys : List (ℕ × List ℕ)) → RiseTo 0 last keys
none_rise last keys = record { rise = λ k h. absurd (omega (arith, h)); last_is = λ k h. absurd (omega (arith, h)) }

-- the line of a key that comes at a place
line_at : (keys later : List (ℕ × List ℕ)) (count line : ℕ) (key : List ℕ) → drop count keys ≡ (line, key) ∷ later → get_or (lines_of keys) count 0 ≡ line
line_at keys later count line key is =
    ap (λ (i : ℕ). get_or (lines_of keys) i 0) (sym (add-zero count))
    ∙ sym (get_or-drop count (lines_of keys) 0 0)
    ∙ ap (λ (l : List ℕ). get_or l 0 0) (drop-map (λ (k : ℕ × List ℕ). k.0) count keys)
    ∙ ap (λ (l : List (ℕ × List ℕ)). get_or (lines_of l) 0 0) is

-- one key more, of a later line
pub one_rises : (count last line more : ℕ) (keys later : List (ℕ × List ℕ)) (key : List ℕ) → RiseTo count last keys → last < line → more ≡ count + 1 → drop count keys ≡ (line, key) ∷ later → RiseTo more line keys
one_rises count last line more keys later key before less next is =
    let at : get_or (lines_of keys) count 0 ≡ line = line_at keys later count line key is in
    record { rise = λ k h. rises at k h (cases_lt (k + 1) count); last_is = λ k h. ends at k (omega (arith, h, next)) }
  where
    rises : get_or (lines_of keys) count 0 ≡ line → (k : ℕ) → k + 1 < more → (k + 1 < count) ⊎ (count ≤ k + 1) → get_or (lines_of keys) k 0 < get_or (lines_of keys) (k + 1) 0
    rises at k h (inl earlier) = before.rise k earlier
    rises at k h (inr here) =
        let same : k + 1 ≡ count = omega (arith, h, here, next) in
        let now : get_or (lines_of keys) (k + 1) 0 ≡ line = ap (λ (i : ℕ). get_or (lines_of keys) i 0) same ∙ at in
        let was : get_or (lines_of keys) k 0 ≤ last = before.last_is k same in
        omega (arith, now, was, less)

    ends : get_or (lines_of keys) count 0 ≡ line → (k : ℕ) → k ≡ count → get_or (lines_of keys) k 0 ≤ line
    ends at k same = let now : get_or (lines_of keys) k 0 ≡ line = ap (λ (i : ℕ). get_or (lines_of keys) i 0) same ∙ at in omega (arith, now)

-- all keys have passed
pub all_rise : (count last : ℕ) (keys : List (ℕ × List ℕ)) → RiseTo count last keys → count ≡ length keys → IsStrictlyIncreasing (lines_of keys)
all_rise count last keys h all = λ k more.
    let long : length (lines_of keys) ≡ length keys = length-map keys (λ (key : ℕ × List ℕ). key.0) in
    h.rise k (omega (arith, more, all, long))
