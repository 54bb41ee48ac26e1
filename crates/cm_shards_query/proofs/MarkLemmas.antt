-- Marks of numbers that come one by one.
use Rattle.std.proofs.Common.{◌≡◌, ◌≢◌, ◌∙◌, ℕ, ◌*◌, ◌/◌, ◌%◌, ◌^◌, ◌<◌, ◌||◌, List, length, set, get_or, bit_or, Some, Bool, true, false, refl, ap, sym, arith, w64}
use Rattle.std.specs.Int.{bit_at}
use Rattle.std.specs.Prelude.{◌==◌}
use Rattle.std.proofs.lemmas.Bool.{eq-eqb, eqb-true, false≢true}
use Rattle.std.proofs.lemmas.List.{get_or-set_other, get_or-set_same}
use Rattle.std.proofs.lemmas.Nat.Bits.{bit_at_set_other, bit_at_set_same}
use Rattle.cm_shards_query.specs.Marks.{is_marked}

or_false : (t : Bool) → t ≡ (t || false)
or_false true = refl
or_false false = refl

or_true : (t : Bool) → true ≡ (t || true)
or_true true = refl
or_true false = refl

-- the word of a number, with its bit set
abbrev pub marked_word : ℕ → ℕ → ℕ
marked_word word v = bit_or word (1 * 2 ^ (v % 64) % 2 ^ 64)

same_mark : (words : List ℕ) (v : ℕ) → v / 64 < length words → is_marked (set words (v / 64) (marked_word (get_or words (v / 64) 0) v)) (Some v) ≡ true
same_mark words v inside =
    let low : v % 64 < 64 = omega arith in
    ap (λ (x : ℕ). bit_at x (v % 64) == 1) (get_or-set_same words (v / 64) (marked_word (get_or words (v / 64) 0) v) 0 inside)
    ∙ ap (λ (x : ℕ). x == 1) (bit_at_set_same w64 (get_or words (v / 64) 0) (v % 64) low)

in_word : (words : List ℕ) (v w : ℕ) (t : Bool) → (v / 64 == w / 64) ≡ t → w ≢ v → v / 64 < length words → is_marked (set words (v / 64) (marked_word (get_or words (v / 64) 0) v)) (Some w) ≡ is_marked words (Some w)
in_word words v w true is other inside =
    let same : v / 64 ≡ w / 64 = eqb-true (v / 64) (w / 64) is in
    let low : v % 64 < 64 = omega arith in
    let ne : w % 64 ≢ v % 64 = λ e. other (omega (arith, same, e)) in
    let new = set words (v / 64) (marked_word (get_or words (v / 64) 0) v) in
    ap (λ (i : ℕ). bit_at (get_or new i 0) (w % 64) == 1) (sym same)
    ∙ ap (λ (x : ℕ). bit_at x (w % 64) == 1) (get_or-set_same words (v / 64) (marked_word (get_or words (v / 64) 0) v) 0 inside)
    ∙ ap (λ (x : ℕ). x == 1) (bit_at_set_other w64 (get_or words (v / 64) 0) (v % 64) low (w % 64) ne)
    ∙ ap (λ (i : ℕ). bit_at (get_or words i 0) (w % 64) == 1) same
in_word words v w false is other inside =
    let ne : w / 64 ≢ v / 64 = λ e. false≢true (sym is ∙ eq-eqb (v / 64) (w / 64) (sym e)) in
    ap (λ (x : ℕ). bit_at x (w % 64) == 1) (get_or-set_other words (v / 64) (w / 64) (marked_word (get_or words (v / 64) 0) v) 0 ne)

mark_by : (words : List ℕ) (v w : ℕ) (t : Bool) → (v == w) ≡ t → v / 64 < length words → is_marked (set words (v / 64) (marked_word (get_or words (v / 64) 0) v)) (Some w) ≡ (is_marked words (Some w) || t)
mark_by words v w true is inside =
    let new = set words (v / 64) (marked_word (get_or words (v / 64) 0) v) in
    ap (λ (k : ℕ). is_marked new (Some k)) (sym (eqb-true v w is)) ∙ same_mark words v inside ∙ or_true (is_marked words (Some w))
mark_by words v w false is inside =
    let ne : w ≢ v = λ e. false≢true (sym is ∙ eq-eqb v w (sym e)) in
    in_word words v w (v / 64 == w / 64) refl ne inside ∙ or_false (is_marked words (Some w))

-- a number is marked, and no other
pub mark_set : (words : List ℕ) (word v w : ℕ) → word ≡ get_or words (v / 64) 0 → v / 64 < length words → is_marked (set words (v / 64) (marked_word word v)) (Some w) ≡ (is_marked words (Some w) || (v == w))
mark_set words word v w is inside = ap (λ (x : ℕ). is_marked (set words (v / 64) (marked_word x v)) (Some w)) is ∙ mark_by words v w (v == w) refl inside
